-- The names and goals of the small program are in range of any row.
use Rattle.std.proofs.Common.{ℕ, zero, suc, ◌+◌, ◌<◌, ◌≡◌, List, refl, subst, arith}
use Rattle.std.proofs.lemmas.List.Elements.{All-nil}
use Rattle.and_model.specs.Terms.{Path}
use Rattle.and_model.specs.declared.goal.Goal.{Goal}
use Rattle.and_model.specs.declared.reference.Ref.TheVariants.{Node}
use Rattle.and_program.specs.Skeletons.{fail}
use Rattle.and_cells.specs.Ranges.{IsInRange, IsNodeInRange, IsGoalInRange}
use Rattle.and_term_rows.specs.Small.{small_program, three_items}

pub name_in_range : (words number : ℕ) → number < 2 → IsInRange small_program words (Node (record { 0 = number }) 0)
name_in_range words zero h = (record { there = omega arith; nameable = omega arith; base_below = omega arith; cells = All-nil _ }, λ k e. absurd (cc))
name_in_range words (suc zero) h = (record { there = omega arith; nameable = omega arith; base_below = omega arith; cells = All-nil _ }, λ k e. absurd (cc))
name_in_range words (suc (suc number)) h = absurd (omega arith)

pub goal_in_range : (words number : ℕ) → number < 3
    → IsGoalInRange small_program words (record { node = 1; item = number; clause = record { 0 = 0 }; base = 0 })
goal_in_range words zero h = record { clause = record { head = 0; items = three_items }; item = fail; clause_is = refl; item_is = refl; item_in_range = tt }
goal_in_range words (suc zero) h =
    record { clause = record { head = 0; items = three_items }; item = fail; clause_is = refl; item_is = refl; item_in_range = tt }
goal_in_range words (suc (suc zero)) h =
    record { clause = record { head = 0; items = three_items }; item = fail; clause_is = refl; item_is = refl; item_in_range = tt }
goal_in_range words (suc (suc (suc number))) h = absurd (omega arith)
