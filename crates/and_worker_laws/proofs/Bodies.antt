-- The goals of a clause's body, as a phase's journal has them.
use Rattle.std.proofs.Common.{ℕ, suc, zero, ◌+◌, ◌≡◌, List, [], ◌∷◌, ◌++◌, map, get_or, refl, ap, subst, inl, inr, arith, Contains}
use Rattle.std.proofs.lemmas.List.Elements.{All-contains}
use Rattle.and_model.specs.Terms.{Path, Term, framed}
use Rattle.and_model.specs.Programs.{Item, call, equal, arithmetic, fail, Arithmetic, arithmetic_in}
use Rattle.and_model.specs.Candidates.{In}
use Rattle.and_model.specs.Stands.{Framed}
use Rattle.and_model.specs.declared.goal.Goal.{Goal}
use Rattle.and_laws.proofs.Ordered.{contains_first, contains_more}
use Rattle.and_cells.proofs.Among.{map_among}
use Rattle.and_phase_laws.specs.Journals.{body_calls, body_arithmetics}
use Rattle.and_branch_laws.specs.Reducing.{goal_at, body_goals}
use Rattle.and_branch_laws.specs.Kept.{goal_of}
use Rattle.and_branch_laws.proofs.BodyGoals.{body_goals_all}

-- A goal of a body is one of its items.
pub goal_of_item : (c n i : ℕ) (items : List Item) (g : Goal) → Contains (map goal_of (body_goals c n [] i items)) g
    → (k : ℕ) × (g ≡ (goal_at c n [] k).goal)
goal_of_item c n i items g h =
    let (f, at, same) = map_among goal_of g (body_goals c n [] i items) h in
    subst (λ (x : Goal). (k : ℕ) × (x ≡ (goal_at c n [] k).goal)) same
    (All-contains (λ (x : Framed). (k : ℕ) × (x.goal ≡ (goal_at c n [] k).goal)) (body_goals c n [] i items) f
    (body_goals_all (λ (x : Framed). (k : ℕ) × (x.goal ≡ (goal_at c n [] k).goal)) c n [] i items (λ k low high. (k, refl))) at)

behind : (q : Path) (i : ℕ) (items : List Item) (k : ℕ) (t : Term) → Contains (body_calls q (suc i) items) (q ++ (suc i + k) ∷ [], framed q t)
    → Contains (body_calls q (suc i) items) (q ++ (i + suc k) ∷ [], framed q t)
behind q i items k t h = let same : suc i + k ≡ i + suc k = omega arith in subst (λ n. Contains (body_calls q (suc i) items) (q ++ n ∷ [], framed q t)) same h

-- An item that is a call is among the body's calls,
pub item_call : (q : Path) (i : ℕ) (items : List Item) (k : ℕ) (t : Term) → get_or items k fail ≡ call t
    → Contains (body_calls q i items) (q ++ (i + k) ∷ [], framed q t)
item_call q i [] k t e = absurd (cc)
item_call q i (call g ∷ items) zero t e =
    let same : g ≡ t = cc in
    let here : i ≡ i + 0 = omega arith in
    subst (λ n. Contains (body_calls q i (call g ∷ items)) (q ++ n ∷ [], framed q t)) here
    (subst (λ u. Contains (body_calls q i (call g ∷ items)) (q ++ i ∷ [], framed q u)) same
    (contains_first (q ++ i ∷ [], framed q g) (body_calls q (suc i) items)))
item_call q i (call g ∷ items) (suc k) t e =
    contains_more (q ++ i ∷ [], framed q g) (q ++ (i + suc k) ∷ [], framed q t) (body_calls q (suc i) items)
    (behind q i items k t (item_call q (suc i) items k t e))
item_call q i (equal a b ∷ items) zero t e = absurd (cc)
item_call q i (equal a b ∷ items) (suc k) t e = behind q i items k t (item_call q (suc i) items k t e)
item_call q i (arithmetic a ∷ items) zero t e = absurd (cc)
item_call q i (arithmetic a ∷ items) (suc k) t e = behind q i items k t (item_call q (suc i) items k t e)
item_call q i (fail ∷ items) zero t e = absurd (cc)
item_call q i (fail ∷ items) (suc k) t e = behind q i items k t (item_call q (suc i) items k t e)

-- and one that is arithmetic among its arithmetic.
pub item_arithmetic : (q : Path) (items : List Item) (k : ℕ) (a : Arithmetic) → get_or items k fail ≡ arithmetic a
    → In (arithmetic_in q a) (body_arithmetics q items)
item_arithmetic q [] k a e = absurd (cc)
item_arithmetic q (arithmetic b ∷ items) zero a e = let same : a ≡ b = cc in inl (ap (λ (x : Arithmetic). arithmetic_in q x) same)
item_arithmetic q (arithmetic b ∷ items) (suc k) a e = inr (item_arithmetic q items k a e)
item_arithmetic q (equal b c ∷ items) zero a e = absurd (cc)
item_arithmetic q (equal b c ∷ items) (suc k) a e = item_arithmetic q items k a e
item_arithmetic q (call g ∷ items) zero a e = absurd (cc)
item_arithmetic q (call g ∷ items) (suc k) a e = item_arithmetic q items k a e
item_arithmetic q (fail ∷ items) zero a e = absurd (cc)
item_arithmetic q (fail ∷ items) (suc k) a e = item_arithmetic q items k a e
