-- The order of trees: one is below another that has clauses for some of its open calls.
use Rattle.std.proofs.Common.{ℕ, ◌≡◌, ◌+◌, ◌≤◌, List, [], ◌∷◌, refl, ap, sym, ◌∙◌, subst, inl, inr, ◌⊎◌, Bool, arith, suc, length}
use Rattle.and_model.specs.Terms.{Path}
use Rattle.and_model.specs.Solutions.{Entails}
use Rattle.and_model.specs.Programs.{Program, Item, call, equal, arithmetic, fail, Arithmetic, Clause, clause_at, clause_weight, Of, head_in}
use Rattle.and_model.specs.Candidates.{In}
use Rattle.and_model.specs.Trees.{Agenda, end, goal, equation, reckoning, agenda, Tree, done, left, by, equate, reckon, equations, arithmetics, taken_weight}
use Rattle.and_model.specs.Trees.{code, IsWhole, Open, call_of, fresh, reduce, blank, Below, both_done, both_left, both_by, grown, both_equate, both_reckon}
use Rattle.and_laws.proofs.Bodies.{fresh_equations, fresh_arithmetics, fresh_weight, fresh_code, fresh_blank}
use mathlib.Core.Bool.{Bool-set}

-- A tree is below itself.
pub below_self : {P : Program} {ag : Agenda} (t : Tree P ag) → Below P ag t t
below_self done = both_done
below_self (left t) = both_left (below_self t)
below_self (by c h t) = both_by c h h (below_self t)
below_self (equate t) = both_equate (below_self t)
below_self (reckon t) = both_reckon (below_self t)

-- A body before two trees keeps their order.
pub below_fresh : {P : Program} (q : Path) (i : ℕ) (items : List Item) {rest : Agenda} {t u : Tree P rest} → Below P rest t u
    → Below P (agenda q i items rest) (fresh q i items t) (fresh q i items u)
below_fresh q i [] b = b
below_fresh q i (call g ∷ items) b = both_left (below_fresh q (suc i) items b)
below_fresh q i (equal a c ∷ items) b = both_equate (below_fresh q (suc i) items b)
below_fresh q i (arithmetic a ∷ items) b = both_reckon (below_fresh q (suc i) items b)
below_fresh q i (fail ∷ items) b = both_equate (below_fresh q (suc i) items b)

-- What is above a tree that is above another is above that one.
pub below_then : {P : Program} {ag : Agenda} {t u v : Tree P ag} → Below P ag u v → Below P ag t u → Below P ag t v
below_then both_done a = a
below_then (both_left b) (both_left a) = both_left (below_then b a)
below_then (both_by c h k b) (both_by c' h' k' a) = both_by c h' k (below_then b a)
below_then (both_by c h k b) (grown c' h' t a) = grown c k t (below_then b a)
below_then {P} (grown {q = q} c h u b) (both_left {t = t} a) = grown c h t (below_then b (below_fresh q 0 (clause_at P c).body a))
below_then (both_equate b) (both_equate a) = both_equate (below_then b a)
below_then (both_reckon b) (both_reckon a) = both_reckon (below_then b a)

-- Reducing an open goal goes up.
pub reduce_above : {P : Program} {ag : Agenda} (t : Tree P ag) (o : Open t) (c : ℕ) (h : Of P (call_of t o) c) → Below P ag t (reduce t o c h)
reduce_above done o c h = elim o [ ]
reduce_above {P} (left {q = q} t) (inl x) c h = grown c h t (below_self (fresh q 0 (clause_at P c).body t))
reduce_above (left t) (inr o) c h = both_left (reduce_above t o c h)
reduce_above (by d k t) o c h = both_by d k k (reduce_above t o c h)
reduce_above (equate t) o c h = both_equate (reduce_above t o c h)
reduce_above (reckon t) o c h = both_reckon (reduce_above t o c h)

-- Every tree is above the blank one.
pub blank_below : {P : Program} {ag : Agenda} (u : Tree P ag) → Below P ag (blank ag) u
blank_below done = both_done
blank_below (left u) = both_left (blank_below u)
blank_below {P} (by {q = q} {rest = rest} c h u) =
    grown c h (blank rest) (subst (λ v. Below P (agenda q 0 (clause_at P c).body rest) v u) (sym (fresh_blank q 0 (clause_at P c).body rest)) (blank_below u))
blank_below (equate u) = both_equate (blank_below u)
blank_below (reckon u) = both_reckon (blank_below u)

-- A larger tree has the equations of the smaller,
pub below_equations : {P : Program} {ag : Agenda} {t u : Tree P ag} → Below P ag t u → Entails (equations u) (equations t)
below_equations both_done s p = p
below_equations (both_left b) s p = below_equations b s p
below_equations (both_by c h k b) s p = (p.0, below_equations b s p.1)
below_equations {P} (grown {q = q} c h t b) s p = fresh_equations q 0 (clause_at P c).body t s (below_equations b s p.1)
below_equations (both_equate b) s p = (p.0, below_equations b s p.1)
below_equations (both_reckon b) s p = below_equations b s p

-- and its arithmetic,
pub below_arithmetics : {P : Program} {ag : Agenda} {t u : Tree P ag} → Below P ag t u → (a : Arithmetic) → In a (arithmetics t) → In a (arithmetics u)
below_arithmetics both_done a i = i
below_arithmetics (both_left b) a i = below_arithmetics b a i
below_arithmetics (both_by c h k b) a i = below_arithmetics b a i
below_arithmetics {P} (grown {q = q} c h t b) a i = below_arithmetics b a (fresh_arithmetics q 0 (clause_at P c).body t a i)
below_arithmetics (both_equate b) a i = below_arithmetics b a i
below_arithmetics (both_reckon b) a (inl e) = inl e
below_arithmetics (both_reckon b) a (inr i) = inr (below_arithmetics b a i)

-- and weighs no less,
pub below_weight : {P : Program} {ag : Agenda} {t u : Tree P ag} → Below P ag t u → taken_weight t ≤ taken_weight u
below_weight both_done = omega arith
below_weight (both_left b) = below_weight b
below_weight (both_by c h k b) = let i = below_weight b in omega arith
below_weight {P} (grown {q = q} c h t b) = let i = below_weight b in omega (arith, fresh_weight q 0 (clause_at P c).body t)
below_weight (both_equate b) = below_weight b
below_weight (both_reckon b) = below_weight b

-- and has no fewer clauses.
pub below_size : {P : Program} {ag : Agenda} {t u : Tree P ag} → Below P ag t u → length (code t) ≤ length (code u)
below_size both_done = omega arith
below_size (both_left b) = below_size b
below_size (both_by c h k b) = let i = below_size b in omega arith
below_size {P} (grown {q = q} c h t b) = let i = below_size b in omega (arith, ap length (fresh_code q 0 (clause_at P c).body t))
below_size (both_equate b) = below_size b
below_size (both_reckon b) = below_size b

-- There is one proof that two truth values are equal,
pub same_proof : {a b : Bool} (h k : a ≡ b) → h ≡ k
same_proof {a} {b} h k = Bool-set a b h k

-- so a tree that is above another and has no more clauses is that one,
pub same_size : {P : Program} {ag : Agenda} {t u : Tree P ag} → Below P ag t u → length (code u) ≤ length (code t) → t ≡ u
same_size both_done n = refl
same_size (both_left b) n = ap left (same_size b n)
same_size (both_by c h k {t = t} {u = u} b) n =
    let inside : t ≡ u = same_size b (omega arith) in
    ap (λ v. by c h v) inside ∙ ap (λ x. by c x u) (same_proof h k)
same_size {P} (grown {q = q} c h t b) n = absurd (omega (arith, below_size b, ap length (fresh_code q 0 (clause_at P c).body t)))
same_size (both_equate b) n = ap equate (same_size b n)
same_size (both_reckon b) n = ap reckon (same_size b n)

-- and two trees above each other are one.
pub same_trees : {P : Program} {ag : Agenda} (t u : Tree P ag) → Below P ag t u → Below P ag u t → t ≡ u
same_trees t u b a = same_size b (below_size a)

-- A whole tree has no open goal,
pub whole_has_none : {P : Program} {ag : Agenda} (t : Tree P ag) → IsWhole t → Open t → ⊥
whole_has_none done w o = elim o [ ]
whole_has_none (left t) w o = elim w [ ]
whole_has_none (by c h t) w o = whole_has_none t w o
whole_has_none (equate t) w o = whole_has_none t w o
whole_has_none (reckon t) w o = whole_has_none t w o

-- and a tree is whole or has one.
pub open_or_whole : {P : Program} {ag : Agenda} (t : Tree P ag) → Open t ⊎ IsWhole t
open_or_whole done = inr tt
open_or_whole (left t) = inl (inl tt)
open_or_whole (by c h t) = open_or_whole t
open_or_whole (equate t) = open_or_whole t
open_or_whole (reckon t) = open_or_whole t

-- A tree with no open goal is whole.
pub none_whole : {P : Program} {ag : Agenda} (t : Tree P ag) → (Open t → ⊥) → IsWhole t
none_whole t none = elim (open_or_whole t) [ inl o ↦ absurd (none o) | inr w ↦ w ]

-- What a whole tree is below has the same clauses, equations, arithmetic and weight,
pub whole_below : {P : Program} {ag : Agenda} {t u : Tree P ag} → Below P ag t u → IsWhole t
    → (code t ≡ code u) × (equations t ≡ equations u) × (arithmetics t ≡ arithmetics u) × (taken_weight t ≡ taken_weight u)
whole_below both_done w = (refl, refl, refl, refl)
whole_below (both_left b) w = elim w [ ]
whole_below {P} (both_by {q = q} {g = g} c h k b) w = let r =
    whole_below b w in (ap (λ l. c ∷ l) r.0, ap (λ l. (g, head_in P q c) ∷ l) r.1, r.2, ap (λ n. clause_weight (clause_at P c) + n) r.3)
whole_below (grown c h t b) w = elim w [ ]
whole_below (both_equate {a = a} {b = b'} b) w = let r = whole_below b w in (r.0, ap (λ l. (a, b') ∷ l) r.1, r.2, r.3)
whole_below (both_reckon {a = a} b) w = let r = whole_below b w in (r.0, r.1, ap (λ l. a ∷ l) r.2, r.3)

-- so it is that tree.
pub whole_same : {P : Program} {ag : Agenda} (t u : Tree P ag) → IsWhole t → Below P ag t u → t ≡ u
whole_same t u w b = same_size b (omega (arith, ap length (whole_below b w).0))

-- Whole trees of one code are below each other,
pub code_below : {P : Program} {ag : Agenda} (t u : Tree P ag) → IsWhole t → IsWhole u → code t ≡ code u → Below P ag t u
code_below done done w v e = both_done
code_below (left t) u w v e = elim w [ ]
code_below (by c h t) (left u) w v e = elim v [ ]
code_below {P} (by {q = q} {g = g} {rest = rest} c h t) (by d k u) w v e =
    let same : c ≡ d = cc in
    let tail : code t ≡ code u = cc in
    (subst (λ n. (k : Of P g n) (u : Tree P (agenda q 0 (clause_at P n).body rest)) → IsWhole u → code t ≡ code u
    → Below P (goal q g rest) (by c h t) (by n k u)) same
    (λ k' u' v' e'. both_by c h k' (code_below t u' w v' e'))) k u v tail
code_below (equate t) (equate u) w v e = both_equate (code_below t u w v e)
code_below (reckon t) (reckon u) w v e = both_reckon (code_below t u w v e)

-- and so are one.
pub code_tree : {P : Program} {ag : Agenda} (t u : Tree P ag) → IsWhole t → IsWhole u → code t ≡ code u → t ≡ u
code_tree t u w v e = same_trees t u (code_below t u w v e) (code_below u t v w (sym e))

-- Each clause weighs at least 1.
pub clause_weighs : (k : Clause) → 1 ≤ clause_weight k
unfolding clause_weight
clause_weighs k = omega arith

-- Reducing a goal adds its clause's weight,
pub reduce_weight : {P : Program} {ag : Agenda} (t : Tree P ag) (o : Open t) (c : ℕ) (h : Of P (call_of t o) c)
    → taken_weight (reduce t o c h) ≡ taken_weight t + clause_weight (clause_at P c)
reduce_weight done o c h = elim o [ ]
reduce_weight {P} (left {q = q} t) (inl u) c h = omega (arith, fresh_weight q 0 (clause_at P c).body t)
reduce_weight (left t) (inr o) c h = reduce_weight t o c h
reduce_weight (by d k t) o c h = omega (arith, reduce_weight t o c h)
reduce_weight (equate t) o c h = reduce_weight t o c h
reduce_weight (reckon t) o c h = reduce_weight t o c h

-- and one clause.
pub reduce_size : {P : Program} {ag : Agenda} (t : Tree P ag) (o : Open t) (c : ℕ) (h : Of P (call_of t o) c)
    → length (code (reduce t o c h)) ≡ suc (length (code t))
reduce_size done o c h = elim o [ ]
reduce_size {P} (left {q = q} t) (inl u) c h = ap (λ l. suc (length l)) (fresh_code q 0 (clause_at P c).body t)
reduce_size (left t) (inr o) c h = reduce_size t o c h
reduce_size (by d k t) o c h = ap suc (reduce_size t o c h)
reduce_size (equate t) o c h = reduce_size t o c h
reduce_size (reckon t) o c h = reduce_size t o c h

-- Nothing is taken in the blank tree.
pub blank_weighs : (P : Program) (ag : Agenda) → taken_weight (blank {P = P} ag) ≡ 0
blank_weighs P end = refl
blank_weighs P (goal q g rest) = blank_weighs P rest
blank_weighs P (equation a b rest) = blank_weighs P rest
blank_weighs P (reckoning a rest) = blank_weighs P rest
