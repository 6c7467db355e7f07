-- What the sides of a comparison say of it.
use Rattle.std.proofs.Common.{ℕ, ◌≡◌, Bool, true, false, true≢false, not, List, Some, None, refl, sym, ap, ◌∙◌, subst}
use Rattle.std.specs.Prelude.{◌↔◌}
use Rattle.and_model.specs.Terms.{Term}
use Rattle.and_model.specs.Arithmetic.{Relation, related, holds}
use Rattle.and_model.specs.declared.reference.Ref.{Ref}
use Rattle.and_cells.specs.Ranges.{NamedProgram}
use Rattle.and_guards.specs.declared.guards.Side.{Side}
use Rattle.and_guards.specs.declared.guards.Side.TheVariants.{Waits, NoValue, Number}
use Rattle.and_guards.specs.Guards.{IsFalseIn}
use Rattle.and_guards.specs.Sides.{IsSide, sides_fail}
use Rattle.and_branch_laws.specs.Sides.{AreCompared}
pub use Rattle.and_branch_laws.proofs.Comparing.{holds_by, none_left}
use Rattle.and_branch_laws.proofs.Comparing.{values_compared}
use Rattle.and_branch_laws.proofs.Readings.{one_reading}

not_false : (b : Bool) → b ≡ false → not b ≡ true
not_false b e = ap not e

pub is_false : (b : Bool) → not b ≡ true → b ≡ false
is_false true e = absurd (true≢false (sym e))
is_false false e = refl

module _ (P : NamedProgram) (row : List Ref) (base : ℕ) (o : Relation) (a b : Term) where
  fails_by : AreCompared P row base o a b false → IsFalseIn P row base o a b
  fails_by c = record {
    left = c.left;
    right = c.right;
    left_read = c.left_read;
    right_read = c.right_read;
    left_ground = c.left_ground;
    right_ground = c.right_ground;
    fails = c.outcome_is;
  }

  -- A comparison is false exactly where its sides make it so.
  pub sides_tell : (l r : Side) → IsSide P row base a l → IsSide P row base b r → sides_fail o l r ≡ true ↔ IsFalseIn P row base o a b
  sides_tell (Waits cell) r one other = (
    λ e. absurd (true≢false (sym e)),
    λ f. absurd (one.0 f.left f.left_read f.left_ground),
  )
  sides_tell NoValue (Waits cell) one other = (
    λ e. absurd (true≢false (sym e)),
    λ f. absurd (other.0 f.right f.right_read f.right_ground),
  )
  sides_tell NoValue NoValue one other = (λ e. fails_by (values_compared P row base o a b None None one other), λ f. refl)
  sides_tell NoValue (Number y) one other = (λ e. fails_by (values_compared P row base o a b None (Some y) one other), λ f. refl)
  sides_tell (Number x) (Waits cell) one other = (
    λ e. absurd (true≢false (sym e)),
    λ f. absurd (other.0 f.right f.right_read f.right_ground),
  )
  sides_tell (Number x) NoValue one other = (λ e. fails_by (values_compared P row base o a b (Some x) None one other), λ f. refl)
  sides_tell (Number x) (Number y) (u, read, ground, some) (w, read_too, ground_too, some_too) = (
    λ e.
        fails_by (subst (AreCompared P row base o a b) (is_false (related o x y) e)
        (values_compared P row base o a b (Some x) (Some y) (u, read, ground, some) (w, read_too, ground_too, some_too))),
    λ f.
        let left_is : f.left ≡ u = one_reading P row base a f.left u f.left_read read in
        let right_is : f.right ≡ w = one_reading P row base b f.right w f.right_read read_too in
        let same : holds o u w ≡ false =
        ap (λ (t : Term). holds o t w) (sym left_is) ∙ ap (λ (t : Term). holds o f.left t) (sym right_is) ∙ f.fails in
        not_false (related o x y) (sym (holds_by o u w (Some x) (Some y) some some_too) ∙ same),
  )
