use Rattle.std.proofs.Common.{ℕ, ◌≡◌, ◌<◌, Some}
use Rattle.std.specs.Prelude.{slice_get}
use Rattle.and_program.specs.Items.{node_item}
use Rattle.and_program.specs.Loaded.{program_of}
use Rattle.and_program.specs.Skeletons.{call}
use Rattle.and_program.specs.declared.item.ItemNode.{ItemNode}
use Rattle.and_cells.specs.Parts.{named}
use Rattle.and_clause_index.specs.Tables.{IsMade, IsKnown, StaysKnown}
use Rattle.and_clause_index.proofs.table.Determinacy.add_calls.Given as goal

abbrev pub invariant-loop-item : goal.invariant-loop-item
invariant-loop-item l = record {
  made : IsMade (program_of l.loaded) l.self l.firsts.items;
  known : (k : ℕ) (item : ItemNode) (node : ℕ) → k < l.item-index → slice_get l.item-items k ≡ Some item → node_item item ≡ call node
      → IsKnown (named l.loaded) l.self node;
  stays : StaysKnown (named l.loaded) l.fn.self l.self;
}
