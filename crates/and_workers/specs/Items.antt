-- The items that goals are, as a worker meets them (this project's own).
use Rattle.std.specs.Prelude.{ℕ, ◌≡◌, slice_get, Some}
use Rattle.and_model.specs.declared.goal.Goal.{Goal}
use Rattle.and_program.specs.Skeletons.{NodeItem}
use Rattle.and_program.specs.Skeletons.{item_of}
use Rattle.and_program.specs.Loaded.{nodes_at}
use Rattle.and_cells.specs.Ranges.{NamedProgram, IsGoalInRange, IsItemInRange}
use Rattle.and_branch_laws.specs.Kept.{item_at}

-- The item stands at the goal's place in the body of the goal's clause, and is in range of so many words in the
-- goal's frame.
pub record IsItemOver (P : NamedProgram) (words : ℕ) (g : Goal) (item : NodeItem) : Type 0 where
  pub there : slice_get (nodes_at P.skeleton g.clause.0).items g.item ≡ Some item
  pub is_item : item_of P.skeleton.nodes item ≡ item_at P.program g
  pub item_in_range : IsItemInRange P words g.clause.0 g.base item
  pub in_range : IsGoalInRange P words g
