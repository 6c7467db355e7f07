-- There is one listing of a program and a limit, and where no outcome weighs more than the limit, every larger limit has the same.
use Rattle.std.proofs.Common.{ℕ, ◌≡◌, ◌+◌, ◌≤◌, ◌<◌, List, [], ◌∷◌, ◌++◌, refl, ap, sym, ◌∙◌, subst, inl, inr, ◌⊎◌, true≢false, arith, zero, suc, length}
use Rattle.std.proofs.lemmas.Bool.{cases_lt}
use Rattle.and_model.specs.Solutions.{Equation, Solvable, Entails}
use Rattle.and_model.specs.Programs.{Program, Arithmetic, clause_at, clause_weight, is_of, Of}
use Rattle.and_model.specs.Trees.{QueryTree, query_agenda, blank, Open, IsWhole, HasOutcome, Closed, call_of, reduce, equations, arithmetics, weight, code}
use Rattle.and_model.specs.Lines.{line}
use Rattle.and_model.specs.Listing.{Outcome, outcome_of, Ends, Entry, Lists, ListsFrom, Listing, answered, nothing, calls, no_more, other, heavy, light}
use Rattle.and_model.specs.Listing.{of_query, too_heavy, Exhausted}
use Rattle.and_laws.specs.Fitting.{AllFit}
use Rattle.and_laws.proofs.Closing.{closes_anyhow, closure_order}
use Rattle.and_laws.proofs.Equality.{bool_cases}
use Rattle.and_laws.proofs.Unifying.{unify}
use Rattle.and_laws.proofs.Deciding.{closes_total, of_bounds}
use Rattle.and_laws.proofs.Order.{whole_has_none, open_or_whole, same_proof, reduce_weight, clause_weighs}
use Rattle.and_laws.proofs.Splitting.{leftmost, leftmost_same}
use Rattle.and_laws.proofs.Printing.{one_line}
use Rattle.and_laws.proofs.Reaching.{fitting_trees_bound}

-- Two closures of a tree entail each other.
pub closed_alike : {P : Program} (t : QueryTree P) (es ds : List Equation) (gs ws : List Arithmetic) → Closed t es gs → Closed t ds ws
    → Entails es ds × Entails ds es × (Solvable es → gs ≡ ws)
closed_alike t es ds gs ws x y =
    closure_order (equations t) (arithmetics t) es gs ds ws (closes_anyhow (equations t) (arithmetics t) es gs x)
    (closes_anyhow (equations t) (arithmetics t) ds ws y)

-- A tree ends with one outcome,
pub one_outcome : {P : Program} (t : QueryTree P) (o r : Outcome) → Ends t o → Ends t r → o ≡ r
one_outcome {P} t o r a b =
    let (whole, es, gs, x, s, m, e) = a in
    let (whole2, ds, ws, y, u, n, f) = b in
    let same = closed_alike t es ds gs ws x y in
    let goals : gs ≡ ws = same.2 (s, m.0) in
    let lines : line P s gs ≡ line P u ws = one_line P es ds s u gs m n same.0 same.1 ∙ ap (line P u) goals in
    e ∙ ap (λ l. outcome_of gs l) lines ∙ ap (λ l. outcome_of l (line P u ws)) goals ∙ sym f

-- a tree that ends has an outcome,
pub ends_outcome : {P : Program} (t : QueryTree P) (o : Outcome) → Ends t o → HasOutcome t
ends_outcome t o a = (a.1, a.2, a.0, a.3, (a.4, a.5.0))

-- and one that has an outcome ends.
pub outcome_ends : {P : Program} (t : QueryTree P) → HasOutcome t → (o : Outcome) × Ends t o
outcome_ends {P} t out =
    let (es, gs, whole, x, so) = out in
    elim (unify es) [ inl m ↦ (outcome_of gs (line P m.0 gs), (whole, es, gs, x, m.0, m.1, refl)) | inr n ↦ absurd (n so) ]

-- It is decided whether a whole tree has an outcome.
pub outcome_or : {P : Program} (t : QueryTree P) → IsWhole t → HasOutcome t ⊎ (HasOutcome t → ⊥)
outcome_or t w =
    let (es, gs, x) = closes_total (equations t) (arithmetics t) in
    elim (unify es) [
      | inl m ↦ inl (es, gs, w, x, (m.0, m.1.0))
      | inr n ↦ inr (λ out. n (out.4.0, (closed_alike t es out.0 gs out.1 x out.3).1 out.4.0 out.4.1))
    ]

module _ (P : Program) (limit : ℕ) where
  -- There is at most one listing of a tree,
  mutual
    pub one_list : (t : QueryTree P) (ks ls : List Entry) → Lists P limit t ks → Lists P limit t ls → ks ≡ ls
    one_list t ks ls (answered t' o a) (answered t2 r b) = ap (λ (x : Outcome). record { code = code t'; outcome = x } ∷ []) (one_outcome t' o r a b)
    one_list t ks ls (answered t' o a) (nothing t2 w n) = absurd (n (ends_outcome t' o a))
    one_list t ks ls (answered t' r a) (calls t2 o ms m f) = absurd (whole_has_none t2 a.0 o)
    one_list t ks ls (nothing t' w n) (answered t2 r b) = absurd (n (ends_outcome t2 r b))
    one_list t ks ls (nothing t' w n) (nothing t2 v m) = refl
    one_list t ks ls (nothing t' w n) (calls t2 o ms m f) = absurd (whole_has_none t2 w o)
    one_list t ks ls (calls t' o ms m f) (answered t2 r b) = absurd (whole_has_none t' b.0 o)
    one_list t ks ls (calls t' o ms m f) (nothing t2 w n) = absurd (whole_has_none t' w o)
    one_list t ks ls (calls t' o ms m f) (calls t2 p ns n g) =
        let same : o ≡ p = leftmost_same t' o p m n in
        one_list_from t' o 1 ms ns f (subst (λ x. ListsFrom P limit t' x 1 ns) (sym same) g)

    one_list_from : (t : QueryTree P) (o : Open t) (c : ℕ) (ks ls : List Entry) → ListsFrom P limit t o c ks → ListsFrom P limit t o c ls → ks ≡ ls
    one_list_from t o c ks ls (no_more t' o' c' e) (no_more t2 o2 c2 f) = refl
    one_list_from t o c ks ls (no_more t' o' c' e) (other t2 o2 c2 js f g r) = absurd (omega arith)
    one_list_from t o c ks ls (no_more t' o' c' e) (heavy t2 o2 c2 js g h r) = let b = of_bounds P (call_of t2 o2) c2 g in absurd (omega arith)
    one_list_from t o c ks ls (no_more t' o' c' e) (light t2 o2 c2 is js g h l r) = let b = of_bounds P (call_of t2 o2) c2 g in absurd (omega arith)
    one_list_from t o c ks ls (other t' o' c' js f g r) (no_more t2 o2 c2 e) = absurd (omega arith)
    one_list_from t o c ks ls (other t' o' c' js f g r) (other t2 o2 c2 is h i q) = one_list_from t' o' (suc c') js is r q
    one_list_from t o c ks ls (other t' o' c' js f g r) (heavy t2 o2 c2 is i k q) = absurd (true≢false (sym i ∙ g))
    one_list_from t o c ks ls (other t' o' c' js f g r) (light t2 o2 c2 as1 is i k l q) = absurd (true≢false (sym i ∙ g))
    one_list_from t o c ks ls (heavy t' o' c' js g h r) (no_more t2 o2 c2 e) = let b = of_bounds P (call_of t' o') c' g in absurd (omega arith)
    one_list_from t o c ks ls (heavy t' o' c' js g h r) (other t2 o2 c2 is i k q) = absurd (true≢false (sym g ∙ k))
    one_list_from t o c ks ls (heavy t' o' c' js g h r) (heavy t2 o2 c2 is k l q) = one_list_from t' o' (suc c') js is r q
    one_list_from t o c ks ls (heavy t' o' c' js g h r) (light t2 o2 c2 as1 is k l x q) = absurd (omega arith)
    one_list_from t o c ks ls (light t' o' c' as1 js g h x r) (no_more t2 o2 c2 e) = let b = of_bounds P (call_of t' o') c' g in absurd (omega arith)
    one_list_from t o c ks ls (light t' o' c' as1 js g h x r) (other t2 o2 c2 is i k q) = absurd (true≢false (sym g ∙ k))
    one_list_from t o c ks ls (light t' o' c' as1 js g h x r) (heavy t2 o2 c2 is k l q) = absurd (omega arith)
    one_list_from t o c ks ls (light t' o' c' as1 js g h x r) (light t2 o2 c2 bs is k l y q) =
        let e : g ≡ k = same_proof g k in
        let a : as1 ≡ bs = one_list (reduce t' o' c' g) as1 bs x (subst (λ z. Lists P limit (reduce t' o' c' z) bs) (sym e) y) in
        let b : js ≡ is = one_list_from t' o' (suc c') js is r q in
        cc

  -- and there is one,
  some_list_from : (t : QueryTree P) (o : Open t)
      → ((c : ℕ) (h : Of P (call_of t o) c) → weight t + clause_weight (clause_at P c) ≤ limit → (ks : List Entry) × Lists P limit (reduce t o c h) ks)
      → (n : ℕ) (c : ℕ) → length P.clauses < n + c → (ls : List Entry) × ListsFrom P limit t o c ls
  some_list_from t o each zero c h = ([], no_more t o c (omega arith))
  some_list_from t o each (suc n) c h =
      let r = some_list_from t o each n (suc c) (omega arith) in
      elim (cases_lt (length P.clauses) c) [
        | inl e ↦ ([], no_more t o c e)
        | inr b ↦ elim (bool_cases (is_of P (call_of t o) c)) [
          | inr e ↦ (r.0, other t o c r.0 b e r.1)
          | inl e ↦ elim (cases_lt limit (weight t + clause_weight (clause_at P c))) [
            | inl big ↦ (r.0, heavy t o c r.0 e big r.1)
            | inr small ↦ (let k = each c e small in (k.0 ++ r.0, light t o c k.0 r.0 e small k.1 r.1))
          ]
        ]
      ]

  -- by induction on what is left of the limit.
  pub some_list : (n : ℕ) (t : QueryTree P) → limit < n + weight t → weight t ≤ limit → (ls : List Entry) × Lists P limit t ls
  some_list zero t h w = absurd (omega arith)
  some_list (suc n) t h w =
      elim (open_or_whole t) [
        | inr whole ↦ elim (outcome_or t whole) [
          | inl out ↦ (let o = outcome_ends t out in (record { code = code t; outcome = o.0 } ∷ [], answered t o.0 o.1))
          | inr none ↦ ([], nothing t whole none)
        ]
        | inl any ↦
            let o : Open t = (leftmost t any).0 in
            let f = some_list_from t o
            (λ c k small. some_list n (reduce t o c k) (omega (arith, reduce_weight t o c k, clause_weighs (clause_at P c)))
            (omega (arith, reduce_weight t o c k)))
            (suc (length P.clauses)) 1 (omega arith) in
            (f.0, calls t o f.0 (leftmost t any).1 f.1)
      ]

-- So there is one listing of a program within a limit, and only one.
pub one_listing : (P : Program) (limit : ℕ) (ks ls : List Entry) → Listing P limit ks → Listing P limit ls → ks ≡ ls
one_listing P limit ks ls (of_query ks' h x) (of_query ls' k y) = one_list P limit (blank (query_agenda P)) ks' ls' x y
one_listing P limit ks ls (of_query ks' h x) (too_heavy k) = absurd (omega arith)
one_listing P limit ks ls (too_heavy h) (of_query ls' k y) = absurd (omega arith)
one_listing P limit ks ls (too_heavy h) (too_heavy k) = refl

pub some_listing : (P : Program) (limit : ℕ) → (ls : List Entry) × Listing P limit ls
some_listing P limit =
    elim (cases_lt limit (weight (blank {P = P} (query_agenda P)))) [
      | inl big ↦ ([], too_heavy big)
      | inr small ↦ (let r = some_list P limit (suc limit) (blank (query_agenda P)) (omega arith) small in (r.0, of_query r.0 small r.1))
    ]

module _ (P : Program) (limit : ℕ) (all : (u : QueryTree P) → HasOutcome u → weight u ≤ limit) where
  -- Where no outcome weighs more than the limit, a tree that does lists nothing, whatever the limit.
  mutual
    over : (larger : ℕ) (t : QueryTree P) (ls : List Entry) → Lists P larger t ls → limit < weight t → ls ≡ []
    over larger t ls (answered t' o a) h = let k = all t' (ends_outcome t' o a) in absurd (omega arith)
    over larger t ls (nothing t' w n) h = refl
    over larger t ls (calls t' o ks m f) h = over_from larger t' o 1 ks f h

    over_from : (larger : ℕ) (t : QueryTree P) (o : Open t) (c : ℕ) (ls : List Entry) → ListsFrom P larger t o c ls → limit < weight t → ls ≡ []
    over_from larger t o c ls (no_more t' o' c' e) h = refl
    over_from larger t o c ls (other t' o' c' ks e f r) h = over_from larger t' o' (suc c') ks r h
    over_from larger t o c ls (heavy t' o' c' ks f g r) h = over_from larger t' o' (suc c') ks r h
    over_from larger t o c ls (light t' o' c' ks js k g l r) h =
        let a : ks ≡ [] = over larger (reduce t' o' c' k) ks l (omega (arith, reduce_weight t' o' c' k)) in
        let b : js ≡ [] = over_from larger t' o' (suc c') js r h in
        ap (λ x. x ++ js) a ∙ b

  -- So a larger limit lists the same.
  mutual
    lists_within : (larger : ℕ) → limit ≤ larger → (t : QueryTree P) (ls : List Entry) → Lists P larger t ls → Lists P limit t ls
    lists_within larger h t ls (answered t' o a) = answered t' o a
    lists_within larger h t ls (nothing t' w n) = nothing t' w n
    lists_within larger h t ls (calls t' o ks m f) = calls t' o ks m (lists_within_from larger h t' o 1 ks f)

    lists_within_from : (larger : ℕ) → limit ≤ larger → (t : QueryTree P) (o : Open t) (c : ℕ) (ls : List Entry) → ListsFrom P larger t o c ls
        → ListsFrom P limit t o c ls
    lists_within_from larger h t o c ls (no_more t' o' c' e) = no_more t' o' c' e
    lists_within_from larger h t o c ls (other t' o' c' ks e f r) = other t' o' c' ks e f (lists_within_from larger h t' o' (suc c') ks r)
    lists_within_from larger h t o c ls (heavy t' o' c' ks f g r) = heavy t' o' c' ks f (omega arith) (lists_within_from larger h t' o' (suc c') ks r)
    lists_within_from larger h t o c ls (light t' o' c' ks js k g l r) =
        let rest : ListsFrom P limit t' o' (suc c') js = lists_within_from larger h t' o' (suc c') js r in
        let inside : Lists P limit (reduce t' o' c' k) ks = lists_within larger h (reduce t' o' c' k) ks l in
        elim (cases_lt limit (weight t' + clause_weight (clause_at P c'))) [
          | inl big ↦ (let a : ks ≡ [] = over larger (reduce t' o' c' k) ks l (omega (arith, reduce_weight t' o' c' k)) in
              subst (λ x. ListsFrom P limit t' o' c' (x ++ js)) (sym a) (heavy t' o' c' js k big rest))
          | inr small ↦ light t' o' c' ks js k small inside rest
        ]

-- Where all reached trees fit, every larger limit has the same listing.
pub fitting_trees_exhausted : (P : Program) (limit : ℕ) → AllFit P limit → Exhausted P limit
fitting_trees_exhausted P limit fit larger h ls =
    (down ls, λ x. let r = some_listing P larger in subst (λ l. Listing P larger l) (one_listing P limit r.0 ls (down r.0 r.1) x) r.1)
  where
    down : (ks : List Entry) → Listing P larger ks → Listing P limit ks
    down ks (of_query ks' small x) = elim (cases_lt limit (weight (blank {P = P} (query_agenda P)))) [
      | inl big ↦ (let e : ks' ≡ [] =
          over P limit (fitting_trees_bound P limit fit) larger (blank (query_agenda P)) ks' x big in subst (λ l. Listing P limit l) (sym e) (too_heavy big))
      | inr fits ↦ of_query ks' fits (lists_within P limit (fitting_trees_bound P limit fit) larger h (blank (query_agenda P)) ks' x)
    ]
    down ks (too_heavy big) = too_heavy (omega arith)
