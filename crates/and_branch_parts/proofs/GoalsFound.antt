-- What is found of goals, with one more behind.
use Rattle.std.proofs.Common.{ℕ, ◌≡◌, Bool, true, false, List, [], ◌∷◌, ◌++◌, append_assoc, refl}
use Rattle.std.proofs.Common.{ap, sym, ◌∙◌, subst, inl, inr}
use Rattle.std.specs.Prelude.{◌↔◌, IsTrue}
use Rattle.std.proofs.lemmas.Bool.{true≢false}
use Rattle.std.proofs.lemmas.List.Elements.{Contains-push_cases}
use Rattle.and_model.specs.declared.goal.Goal.{Goal}
use Rattle.and_model.specs.declared.numbers.ClauseNo.{ClauseNo}
use Rattle.and_model.specs.declared.reference.Ref.{Ref}
use Rattle.and_cells.specs.Ranges.{NamedProgram}
use Rattle.and_branch_laws.specs.Judging.{SoleInCells, FitsBehind}
use Rattle.and_branch_laws.specs.Kept.{item_at}
use Rattle.and_branch_parts.specs.Branches.{is_arithmetic, IsArithmeticGoal}
use Rattle.and_branch_parts.specs.Watching.{HasTwo}
use Rattle.and_branch_parts.specs.Finding.{IsCallGoal, AllCalls, HasOne, HasNoSole, HasNoFitting, IsCallAmong, IsHeavy}

pub two_one : (P : NamedProgram) (row : List Ref) (g : Goal) → HasTwo P row g → HasOne P row g
two_one P row g x = (x.0, x.3)

pub two_no_sole : (P : NamedProgram) (row : List Ref) (g : Goal) → HasTwo P row g → HasNoSole P row g
two_no_sole P row g x d sole = x.2 (sole.1 x.0 x.3 ∙ sym (sole.1 x.1 x.4))

pub two_no_fitting : (P : NamedProgram) (limit : ℕ) (row : List Ref) (g : Goal) → HasTwo P row g → HasNoFitting P limit row g
two_no_fitting P limit row g x d sole fits = two_no_sole P row g x d sole

-- the calls of a list, and of one with a goal more
pub calls_weaker : (P : NamedProgram) (Q R : Goal → Type 0) → ((g : Goal) → Q g → R g) → (gs : List Goal) → AllCalls P Q gs → AllCalls P R gs
calls_weaker P Q R f gs h g i called = f g (h g i called)

pub calls_push : (P : NamedProgram) (Q : Goal → Type 0) (gs : List Goal) (goal : Goal) → AllCalls P Q gs → (IsCallGoal P goal → Q goal)
    → AllCalls P Q (gs ++ goal ∷ [])
calls_push P Q gs goal h x g i called = elim (Contains-push_cases gs goal g i) [
  | inl j ↦ h g j called
  | inr e ↦ subst Q e (x (subst (IsCallGoal P) (sym e) called))
]

-- A call among the goals is among them with one more.
abbrev among_more : (P : NamedProgram) (gs : List Goal) (goal first : Goal) → IsCallAmong P gs first → IsCallAmong P (gs ++ goal ∷ []) first
among_more P gs goal first x = record {
  front = x.front;
  back = x.back ++ goal ∷ [];
  all = ap (λ (l : List Goal). l ++ goal ∷ []) x.all ∙ append_assoc x.front (first ∷ x.back) (goal ∷ []);
  called = x.called;
}

abbrev pub among_last : (P : NamedProgram) (gs : List Goal) (goal : Goal) → IsCallGoal P goal → IsCallAmong P (gs ++ goal ∷ []) goal
among_last P gs goal called = record { front = gs; back = []; all = refl; called = called }

module _ (P : NamedProgram) (limit : ℕ) (row : List Ref) (gs : List Goal) (goal : Goal) where
  pub heavy_more : (first : Goal) (c : ℕ) → IsHeavy P limit row gs first c → (IsCallGoal P goal → HasOne P row goal)
      → (IsCallGoal P goal → HasNoFitting P limit row goal) → IsHeavy P limit row (gs ++ goal ∷ []) first c
  heavy_more first c x one none = record {
    among = among_more P gs goal first x.among;
    sole = x.sole;
    first = x.first;
    each = calls_push P (HasOne P row) gs goal x.each one;
    none = calls_push P (HasNoFitting P limit row) gs goal x.none none;
  }

  module _ (called : IsCallGoal P goal) where
    module _ (clause : ClauseNo) (sole : SoleInCells P row goal clause.0) where
      pub one_here : IsCallGoal P goal → HasOne P row goal
      one_here _ = (clause.0, sole.0)

      -- One that is too heavy has none that fits.
      pub heavy_here : (FitsBehind P limit row clause.0 → ⊥) → IsCallGoal P goal → HasNoFitting P limit row goal
      heavy_here n _ d other fits = n (subst (FitsBehind P limit row) (sole.1 d other.0) fits)

      pub first_heavy : AllCalls P (HasNoSole P row) gs → AllCalls P (HasOne P row) gs → (FitsBehind P limit row clause.0 → ⊥)
          → IsHeavy P limit row (gs ++ goal ∷ []) goal clause.0
      first_heavy none each n = record {
        among = among_last P gs goal called;
        sole = sole;
        first = none;
        each = calls_push P (HasOne P row) gs goal each one_here;
        none = calls_push P (HasNoFitting P limit row) gs goal
            (calls_weaker P (HasNoSole P row) (HasNoFitting P limit row) (λ g h d x fits. h d x) gs none) (heavy_here n);
      }

-- the goal is a call where it is told to be no arithmetic
told : (b r : Bool) → (IsTrue r ↔ (b ≡ true)) → r ≡ false → b ≡ false
told true r is e = absurd (true≢false (sym (is.1 refl) ∙ e))
told false r is e = refl

pub is_call_goal : (P : NamedProgram) (g : Goal) (r : Bool) → (IsTrue r ↔ IsArithmeticGoal P g) → r ≡ false → IsCallGoal P g
is_call_goal P g r is e = told (is_arithmetic (item_at P.program g)) r is e
