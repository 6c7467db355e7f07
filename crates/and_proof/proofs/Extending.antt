-- Codes that are unfolded, clause by clause.
use Rattle.std.proofs.Common.{ℕ, ◌≡◌, List, [], ◌∷◌, ◌++◌, append_assoc, length, refl, ap, sym, ◌∙◌, subst, inl, inr, Option}
use Rattle.std.proofs.Common.{Some, None}
use Rattle.and_model.specs.Terms.{Path, Term}
use Rattle.and_model.specs.Programs.{Program, Item, call, equal, arithmetic, fail, clause_at, Of}
use Rattle.and_model.specs.Trees.{Agenda, end, goal, equation, reckoning, Tree, QueryTree, query_agenda, blank, done, left, by, equate, reckon, code}
use Rattle.and_model.specs.Trees.{decided, Open, IsLeftmost, path, call_of, fresh, reduce, Below, both_by, grown, both_equate}
use Rattle.and_model.specs.Trees.{both_reckon, taking, mapped, then, extend, extend_all, unfold_code}
use Rattle.and_model.specs.Stands.{calls_left}
use Rattle.and_laws.proofs.Order.{below_self, below_then}
use Rattle.and_laws.proofs.Unfolding.{extend_leftmost, unfolding_code}
use Rattle.and_laws.proofs.Keys.{next_taken}
use Rattle.and_proof.specs.Proofs.{Replaced, all_replaced}

-- ---- Trees that are extended

mapped_some : {A B : Type 0} (f : A → B) (o : Option A) (y : B) → mapped f o ≡ Some y → (x : A) × (o ≡ Some x) × (f x ≡ y)
mapped_some f None y e = absurd (cc)
mapped_some f (Some x) y e = (x, refl, cc)

then_some : {A B : Type 0} (o : Option A) (f : A → Option B) (y : B) → then o f ≡ Some y → (x : A) × (o ≡ Some x) × (f x ≡ Some y)
then_some None f y e = absurd (cc)
then_some (Some x) f y e = (x, refl, e)

-- A tree is below what it is extended to,
extend_above : {P : Program} {ag : Agenda} (t u : Tree P ag) (c : ℕ) → extend t c ≡ Some u → Below P ag t u
extend_above done u c e = absurd (cc)
extend_above {P} (left {q = q} {g = g} {rest = rest} t) u c e =
    let (h, found, made) = mapped_some (λ k. by c k (fresh q 0 (clause_at P c).body t)) (taking P g c) u e in
    subst (λ v. Below P (goal q g rest) (left t) v) made (grown c h t (below_self (fresh q 0 (clause_at P c).body t)))
extend_above {P} (by {q = q} {g = g} {rest = rest} d k t) u c e =
    let (v, inside, made) = mapped_some (by d k) (extend t c) u e in
    subst (λ w. Below P (goal q g rest) (by d k t) w) made (both_by d k k (extend_above t v c inside))
extend_above {P} (equate {a = a} {b = b} {rest = rest} t) u c e =
    let (v, inside, made) = mapped_some equate (extend t c) u e in
    subst (λ w. Below P (equation a b rest) (equate t) w) made (both_equate (extend_above t v c inside))
extend_above {P} (reckon {a = a} {rest = rest} t) u c e =
    let (v, inside, made) = mapped_some reckon (extend t c) u e in
    subst (λ w. Below P (reckoning a rest) (reckon t) w) made (both_reckon (extend_above t v c inside))

pub extend_all_above : {P : Program} {ag : Agenda} (t u : Tree P ag) (cs : List ℕ) → extend_all t cs ≡ Some u → Below P ag t u
extend_all_above {P} {ag} t u [] e = let same : t ≡ u = cc in subst (λ v. Below P ag t v) same (below_self t)
extend_all_above t u (c ∷ cs) e =
    let (v, one, rest) = then_some (extend t c) (λ w. extend_all w cs) u e in
    below_then (extend_all_above v u cs rest) (extend_above t v c one)

then_both : {A B C : Type 0} (o : Option A) (f : A → Option C) (h : A → Option B) (k : B → Option C) → ((x : A) → f x ≡ then (h x) k)
    → then o f ≡ then (then o h) k
then_both None f h k e = refl
then_both (Some x) f h k e = e x

-- and a code's beginning is unfolded first.
extend_parts : {P : Program} {ag : Agenda} (t : Tree P ag) (cs ds : List ℕ) → extend_all t (cs ++ ds) ≡ then (extend_all t cs) (λ u. extend_all u ds)
extend_parts t [] ds = refl
extend_parts t (c ∷ cs) ds =
    then_both (extend t c) (λ u. extend_all u (cs ++ ds)) (λ u. extend_all u cs) (λ u. extend_all u ds) (λ u. extend_parts u cs ds)

pub begins_above : (P : Program) (cs ds : List ℕ) (t u : QueryTree P) → unfold_code P cs ≡ Some t → unfold_code P (cs ++ ds) ≡ Some u
    → Below P (query_agenda P) t u
begins_above P cs ds t u one all =
    let parts : then (extend_all (blank (query_agenda P)) cs) (λ v. extend_all v ds) ≡ Some u = sym (extend_parts (blank (query_agenda P)) cs ds) ∙ all in
    let rest : extend_all t ds ≡ Some u = ap (λ o. then o (λ v. extend_all v ds)) (sym one) ∙ parts in
    extend_all_above t u ds rest

-- Where a code goes on from what was unfolded, the next clause takes the leftmost call.
pub next_of : (P : Program) (cs rest : List ℕ) (c : ℕ) (t u : QueryTree P) → unfold_code P cs ≡ Some t → unfold_code P (cs ++ c ∷ rest) ≡ Some u
    → (o : Open t) × IsLeftmost t o × (h : Of P (call_of t o) c) × Below P (query_agenda P) (reduce t o c h) u
next_of P cs rest c t u one all =
    let a = unfolding_code P cs t one in
    let b = unfolding_code P (cs ++ c ∷ rest) u all in
    let begins : decided u ≡ (decided t ++ c ∷ []) ++ rest = b.1 ∙ sym (append_assoc cs (c ∷ []) rest) ∙ ap (λ l. (l ++ c ∷ []) ++ rest) (sym a.1) in
    next_taken (begins_above P cs (c ∷ rest) t u one all) c (rest, begins)

-- The code with the clause that took the leftmost call unfolds to the reduced tree.
pub one_more_unfolds : (P : Program) (cs : List ℕ) (c : ℕ) (t : QueryTree P) (o : Open t) (h : Of P (call_of t o) c) → IsLeftmost t o
    → unfold_code P cs ≡ Some t → unfold_code P (cs ++ c ∷ []) ≡ Some (reduce t o c h)
one_more_unfolds P cs c t o h m one =
    extend_parts (blank (query_agenda P)) cs (c ∷ []) ∙ ap (λ x. then x (λ v. extend_all v (c ∷ []))) one
    ∙ ap (λ x. then x (λ w. extend_all w [])) (extend_leftmost t o c h m)

-- ---- The calls that were replaced

fresh_replaced : {P : Program} (q : Path) (i : ℕ) (items : List Item) {rest : Agenda} (t : Tree P rest) → all_replaced (fresh q i items t) ≡ all_replaced t
fresh_replaced q i [] t = refl
fresh_replaced q i (call g ∷ items) t = fresh_replaced q _ items t
fresh_replaced q i (equal a b ∷ items) t = fresh_replaced q _ items t
fresh_replaced q i (arithmetic a ∷ items) t = fresh_replaced q _ items t
fresh_replaced q i (fail ∷ items) t = fresh_replaced q _ items t

none_replaced : {P : Program} {ag : Agenda} (t : Tree P ag) → code t ≡ [] → all_replaced t ≡ []
none_replaced done e = refl
none_replaced (left t) e = none_replaced t e
none_replaced (by c h t) e = absurd (cc)
none_replaced (equate t) e = none_replaced t e
none_replaced (reckon t) e = none_replaced t e

pub blank_replaced : (P : Program) (ag : Agenda) → all_replaced (blank {P = P} ag) ≡ []
blank_replaced P end = refl
blank_replaced P (goal q g rest) = blank_replaced P rest
blank_replaced P (equation a b rest) = blank_replaced P rest
blank_replaced P (reckoning a rest) = blank_replaced P rest

-- Where the taken calls come before the open ones, the leftmost call is replaced behind those that were.
pub one_more_replaced : {P : Program} {ag : Agenda} (t : Tree P ag) (o : Open t) (c : ℕ) (h : Of P (call_of t o) c) → IsLeftmost t o → decided t ≡ code t
    → all_replaced (reduce t o c h) ≡ all_replaced t ++ record { depth = length (path t o); clause = c; call = call_of t o } ∷ []
one_more_replaced done o c h m d = elim o [ ]
one_more_replaced {P} (left {q = q} {g = g} t) (inl x) c h m d =
    let last : List Replaced = record { depth = length q; clause = c; call = g } ∷ [] in
    let none_is : all_replaced t ≡ [] = none_replaced t (sym d) in
    ap (λ l. record { depth = length q; clause = c; call = g } ∷ l) (fresh_replaced q 0 (clause_at P c).body t ∙ none_is)
    ∙ ap (λ l. l ++ last) (sym none_is)
one_more_replaced (left t) (inr o) c h m d = elim m [ ]
one_more_replaced (by {q = q} {g = g} e k t) o c h m d =
    ap (λ l. record { depth = length q; clause = e; call = g } ∷ l) (one_more_replaced t o c h m (cc))
one_more_replaced (equate t) o c h m d = one_more_replaced t o c h m d
one_more_replaced (reckon t) o c h m d = one_more_replaced t o c h m d

-- ---- The leftmost call

pub first_left : {P : Program} {ag : Agenda} (t : Tree P ag) (q : Path) (g : Term) (rest : List (Path × Term)) → calls_left t ≡ (q, g) ∷ rest
    → (o : Open t) × IsLeftmost t o × (path t o ≡ q) × (call_of t o ≡ g)
first_left done q g rest e = absurd (cc)
first_left (left {q = p} {g = a} t) q g rest e =
    let same : (p, a) ≡ (q, g) = first_of_list (p, a) (q, g) (calls_left t) rest e in
    (inl tt, tt, ap (λ (x : Path × Term). x.0) same, ap (λ (x : Path × Term). x.1) same)
  where
    first_of_list : {X : Type 0} (x y : X) (xs ys : List X) → x ∷ xs ≡ y ∷ ys → x ≡ y
    first_of_list x y xs ys e = cc
first_left (by c h t) q g rest e = first_left t q g rest e
first_left (equate t) q g rest e = first_left t q g rest e
first_left (reckon t) q g rest e = first_left t q g rest e

pub none_left : {P : Program} {ag : Agenda} (t : Tree P ag) → calls_left t ≡ [] → Open t → ⊥
none_left done e o = elim o [ ]
none_left (left t) e o = absurd (cc)
none_left (by c h t) e o = none_left t e o
none_left (equate t) e o = none_left t e o
none_left (reckon t) e o = none_left t e o
