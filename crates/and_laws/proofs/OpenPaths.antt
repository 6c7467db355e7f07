-- Open goals have paths of their own.
use Rattle.std.proofs.Common.{ℕ, ◌≡◌, List, [], ◌∷◌, ◌++◌, append-nil, refl, ap, sym, subst, inl, inr, ◌⊎◌, suc}
use Rattle.and_model.specs.Terms.{Path, Term}
use Rattle.and_model.specs.Programs.{Program, Item, call, equal, arithmetic, fail, clause_at}
use Rattle.and_model.specs.Trees.{Agenda, goal, agenda, Tree, done, left, by, equate, reckon, Open, path}
use Rattle.and_model.specs.Prefixes.{IsPrefix}
use Rattle.and_laws.specs.Paths.{At}
use Rattle.and_laws.proofs.PrefixLemmas.{prefix_front}
use Rattle.and_laws.proofs.Agreement.{Under, Apart, apart_body, own_body}

under_body : (q : Path) (i : ℕ) (items : List Item) (rest : Agenda) (p : Path) → Under (agenda q i items rest) p
    → ((j : ℕ) × IsPrefix (q ++ j ∷ []) p) ⊎ Under rest p
under_body q i [] rest p u = inr u
under_body q i (call g ∷ items) rest p (inl b) = inl (i, b)
under_body q i (call g ∷ items) rest p (inr u) = under_body q (suc i) items rest p u
under_body q i (equal a b ∷ items) rest p u = under_body q (suc i) items rest p u
under_body q i (arithmetic a ∷ items) rest p u = under_body q (suc i) items rest p u
under_body q i (fail ∷ items) rest p u = under_body q (suc i) items rest p u

open_under : {P : Program} {ag : Agenda} (t : Tree P ag) (o : Open t) → Under ag (path t o)
open_under done o = elim o [ ]
open_under (left {q = q} t) (inl u) = inl ([], sym (append-nil q))
open_under (left t) (inr o) = inr (open_under t o)
open_under {P} (by {q = q} {rest = rest} c h t) o =
    elim (under_body q 0 (clause_at P c).body rest (path t o) (open_under t o))
    [ inl x ↦ inl (prefix_front q (x.0 ∷ []) (path t o) x.1) | inr v ↦ inr v ]
open_under (equate t) o = open_under t o
open_under (reckon t) o = open_under t o

longer : (xs : List ℕ) (j : ℕ) (ys : List ℕ) → xs ≡ (xs ++ j ∷ []) ++ ys → ⊥
longer [] j ys e = cc
longer (x ∷ xs) j ys e = longer xs j ys (cc)

-- a body's agenda does not go through the body's own path
pub own_not_under : (q : Path) (g : Term) (rest : Agenda) (items : List Item) → Apart (goal q g rest) → Under (agenda q 0 items rest) q → ⊥
own_not_under q g rest items a u = elim (under_body q 0 items rest q u) [
  | inl y ↦ longer q y.0 y.1.0 y.1.1
  | inr v ↦ a.0 q ([], sym (append-nil q)) v
]

-- and where it goes, the goal's does
pub body_under : (q : Path) (g : Term) (rest : Agenda) (items : List Item) (p : Path) → Under (agenda q 0 items rest) p
    → Under (goal q g rest) p
body_under q g rest items p u = elim (under_body q 0 items rest p u) [ inl x ↦ inl (prefix_front q (x.0 ∷ []) p x.1) | inr v ↦ inr v ]

own_open : {P : Program} (q : Path) (g : Term) (rest : Agenda) (items : List Item) (t : Tree P (agenda q 0 items rest)) (o : Open t)
    → Apart (goal q g rest) → path t o ≡ q → ⊥
own_open q g rest items t o a e = own_not_under q g rest items a (subst (λ x. Under (agenda q 0 items rest) x) e (open_under t o))

-- At the path of an open goal stands no clause,
pub open_free : {P : Program} {ag : Agenda} (t : Tree P ag) (o : Open t) (d : ℕ) → Apart ag → At t (path t o) d → ⊥
open_free done o d a x = elim o [ ]
open_free (left {q = q} {g = g} {rest = rest} t) (inl u) d a x = own_body q g rest [] t d a x
open_free (left t) (inr o) d a x = open_free t o d a.1 x
open_free {P} (by {q = q} {g = g} {rest = rest} c h t) o d a x = elim x [
  | inl e ↦ own_open q g rest (clause_at P c).body t o a e.0
  | inr y ↦ open_free t o d (apart_body q 0 (clause_at P c).body rest a.0 a.1) y
]
open_free (equate t) o d a x = open_free t o d a x
open_free (reckon t) o d a x = open_free t o d a x

-- and no other open goal has that path.
pub one_open : {P : Program} {ag : Agenda} (t : Tree P ag) (o p : Open t) → Apart ag → path t o ≡ path t p → o ≡ p
one_open done o p a e = elim o [ ]
one_open (left t) (inl u) (inl v) a e = refl
one_open (left {q = q} {rest = rest} t) (inl u) (inr p) a e =
    absurd (a.0 q ([], sym (append-nil q)) (subst (λ x. Under rest x) (sym e) (open_under t p)))
one_open (left {q = q} {rest = rest} t) (inr o) (inl v) a e =
    absurd (a.0 q ([], sym (append-nil q)) (subst (λ x. Under rest x) e (open_under t o)))
one_open (left t) (inr o) (inr p) a e = ap inr (one_open t o p a.1 e)
one_open {P} (by {q = q} {g = g} {rest = rest} c h t) o p a e = one_open t o p (apart_body q 0 (clause_at P c).body rest a.0 a.1) e
one_open (equate t) o p a e = one_open t o p a e
one_open (reckon t) o p a e = one_open t o p a e
