-- The unfolding of a code: the tree whose calls are taken by these clauses from left to right.
use Rattle.std.proofs.Common.{ℕ, ◌≡◌, List, [], ◌∷◌, ◌++◌, append_assoc, append-nil, refl, ap, sym, ◌∙◌, inl, inr, Bool, true, false, true≢false, Option}
use Rattle.std.proofs.Common.{Some, None, arith, length}
use Rattle.and_model.specs.Terms.{Term}
use Rattle.and_model.specs.Programs.{Program, clause_at, is_of, Of}
use Rattle.and_model.specs.Trees.{Agenda, end, goal, equation, reckoning, Tree, QueryTree, query_agenda, blank, done, left, by, equate, reckon, code, decided}
use Rattle.and_model.specs.Trees.{IsWhole, Open, IsLeftmost, call_of, fresh, reduce, Below, taking, mapped, then, extend, extend_all, unfold_code}
use Rattle.and_laws.proofs.Bodies.{fresh_code}
use Rattle.and_laws.proofs.Order.{blank_below, same_proof, same_size}
use Rattle.and_laws.proofs.Keys.{next_taken}
use Rattle.and_laws.proofs.Codes.{decided_code}

-- The proof that a clause is of a predicate is found where there is one.
taking_proof : (b : Bool) (h : b ≡ true) → (elim b as (λ b. Option (b ≡ true)) [ true ↦ Some refl | false ↦ None ]) ≡ Some h
taking_proof true h = ap Some (same_proof refl h)
taking_proof false h = absurd (true≢false (sym h))

taking_is : (P : Program) (g : Term) (c : ℕ) (h : Of P g c) → taking P g c ≡ Some h
taking_is P g c h = taking_proof (is_of P g c) h

mapped_some : {A B : Type 0} (f : A → B) (o : Option A) (y : B) → mapped f o ≡ Some y → (x : A) × (o ≡ Some x) × (f x ≡ y)
mapped_some f None y e = absurd (cc)
mapped_some f (Some x) y e = (x, refl, cc)

-- Extending a tree reduces its leftmost open goal.
pub extend_leftmost : {P : Program} {ag : Agenda} (t : Tree P ag) (o : Open t) (c : ℕ) (h : Of P (call_of t o) c) → IsLeftmost t o
    → extend t c ≡ Some (reduce t o c h)
extend_leftmost done o c h m = elim m [ ]
extend_leftmost {P} (left {q = q} {g = g} t) (inl x) c h m = ap (mapped (λ k. by c k (fresh q 0 (clause_at P c).body t))) (taking_is P g c h)
extend_leftmost (left t) (inr o) c h m = elim m [ ]
extend_leftmost (by d k t) o c h m = ap (mapped (by d k)) (extend_leftmost t o c h m)
extend_leftmost (equate t) o c h m = ap (mapped equate) (extend_leftmost t o c h m)
extend_leftmost (reckon t) o c h m = ap (mapped reckon) (extend_leftmost t o c h m)

-- A tree without clauses has decided nothing.
none_decided : {P : Program} {ag : Agenda} (t : Tree P ag) → code t ≡ [] → decided t ≡ []
none_decided t e = front_empty (decided t) (decided_code t).0 (sym e ∙ (decided_code t).1)
  where
    front_empty : (xs ys : List ℕ) → [] ≡ xs ++ ys → xs ≡ []
    front_empty [] ys e = refl
    front_empty (x ∷ xs) ys e = absurd (cc)

-- Where the taken calls come before the open ones, an extension adds its clause at the end, and they still do.
extended : {P : Program} {ag : Agenda} (t u : Tree P ag) (c : ℕ) → extend t c ≡ Some u → decided t ≡ code t → (decided u ≡ code u) × (code u ≡ code t ++ c ∷ [])
extended done u c e d = absurd (cc)
extended {P} (left {q = q} {g = g} t) u c e d =
    let (h, found, made) = mapped_some (λ k. by c k (fresh q 0 (clause_at P c).body t)) (taking P g c) u e in
    let inside : code (fresh q 0 (clause_at P c).body t) ≡ [] = fresh_code q 0 (clause_at P c).body t ∙ sym d in
    let codes : code u ≡ c ∷ [] = ap code (sym made) ∙ ap (λ l. c ∷ l) inside in
    let first : decided u ≡ c ∷ [] = ap decided (sym made) ∙ ap (λ l. c ∷ l) (none_decided (fresh q 0 (clause_at P c).body t) inside) in
    (first ∙ sym codes, codes ∙ ap (λ l. l ++ c ∷ []) d)
extended {P} (by b k t) u c e d =
    let (v, inside, made) = mapped_some (by b k) (extend t c) u e in
    let r = extended t v c inside (cc) in
    (ap decided (sym made) ∙ ap (λ l. b ∷ l) r.0 ∙ ap code made, ap code (sym made) ∙ ap (λ l. b ∷ l) r.1)
extended (equate t) u c e d =
    let (v, inside, made) = mapped_some equate (extend t c) u e in
    let r = extended t v c inside d in
    (ap decided (sym made) ∙ r.0 ∙ ap code made, ap code (sym made) ∙ r.1)
extended (reckon t) u c e d =
    let (v, inside, made) = mapped_some reckon (extend t c) u e in
    let r = extended t v c inside d in
    (ap decided (sym made) ∙ r.0 ∙ ap code made, ap code (sym made) ∙ r.1)

then_some : {A B : Type 0} (o : Option A) (f : A → Option B) (y : B) → then o f ≡ Some y → (x : A) × (o ≡ Some x) × (f x ≡ Some y)
then_some None f y e = absurd (cc)
then_some (Some x) f y e = (x, refl, e)

all_extended : {P : Program} {ag : Agenda} (t u : Tree P ag) (cs : List ℕ) → extend_all t cs ≡ Some u → decided t ≡ code t
    → (decided u ≡ code u) × (code u ≡ code t ++ cs)
all_extended t u [] e d =
    let same : t ≡ u = cc in
    (ap decided (sym same) ∙ d ∙ ap code same, ap code (sym same) ∙ sym (append-nil (code t)))
all_extended t u (c ∷ cs) e d =
    let (v, one, rest) = then_some (extend t c) (λ w. extend_all w cs) u e in
    let r = extended t v c one d in
    let i = all_extended v u cs rest r.0 in
    (i.0, i.1 ∙ ap (λ l. l ++ cs) r.1 ∙ append_assoc (code t) (c ∷ []) cs)

blank_code : (P : Program) (ag : Agenda) → code (blank {P = P} ag) ≡ []
blank_code P end = refl
blank_code P (goal q g rest) = blank_code P rest
blank_code P (equation a b rest) = blank_code P rest
blank_code P (reckoning a rest) = blank_code P rest

-- So an unfolding has the code, and its taken calls come before its open ones.
pub unfolding_code : (P : Program) (cs : List ℕ) (t : QueryTree P) → unfold_code P cs ≡ Some t → (code t ≡ cs) × (decided t ≡ cs)
unfolding_code P cs t e =
    let none : code (blank {P = P} (query_agenda P)) ≡ [] = blank_code P (query_agenda P) in
    let r = all_extended (blank (query_agenda P)) t cs e (none_decided (blank (query_agenda P)) none ∙ sym none) in
    let codes : code t ≡ cs = r.1 ∙ ap (λ l. l ++ cs) none in
    (codes, r.0 ∙ codes)

-- A tree whose taken calls come before its open ones is come to by extending any smaller such tree,
extends_to : {P : Program} {ag : Agenda} (cs : List ℕ) (t u : Tree P ag) → Below P ag t u → decided t ≡ code t → decided u ≡ code u → code u ≡ code t ++ cs
    → extend_all t cs ≡ Some u
extends_to [] t u b d f e = ap Some (same_size b (let n = ap length (e ∙ append-nil (code t)) in omega arith))
extends_to {P} (c ∷ cs) t u b d f e =
    let begins : decided u ≡ (decided t ++ c ∷ []) ++ cs = f ∙ e ∙ ap (λ l. l ++ c ∷ cs) (sym d) ∙ sym (append_assoc (decided t) (c ∷ []) cs) in
    let (o, m, h, above) = next_taken b c (cs, begins) in
    let made : extend t c ≡ Some (reduce t o c h) = extend_leftmost t o c h m in
    let r = extended t (reduce t o c h) c made d in
    let rest : code u ≡ code (reduce t o c h) ++ cs = e ∙ sym (append_assoc (code t) (c ∷ []) cs) ∙ ap (λ l. l ++ cs) (sym r.1) in
    ap (λ x. then x (λ w. extend_all w cs)) made ∙ extends_to cs (reduce t o c h) u above r.0 f rest

-- so it is the unfolding of its code,
pub code_unfolds : (P : Program) (t : QueryTree P) → decided t ≡ code t → unfold_code P (code t) ≡ Some t
code_unfolds P t d =
    let none : code (blank {P = P} (query_agenda P)) ≡ [] = blank_code P (query_agenda P) in
    extends_to (code t) (blank (query_agenda P)) t (blank_below t) (none_decided (blank (query_agenda P)) none ∙ sym none) d (ap (λ l. l ++ code t) (sym none))

-- as each whole tree is.
pub whole_decided : {P : Program} {ag : Agenda} (t : Tree P ag) → IsWhole t → decided t ≡ code t
whole_decided done w = refl
whole_decided (left t) w = elim w [ ]
whole_decided (by c h t) w = ap (λ l. c ∷ l) (whole_decided t w)
whole_decided (equate t) w = whole_decided t w
whole_decided (reckon t) w = whole_decided t w
