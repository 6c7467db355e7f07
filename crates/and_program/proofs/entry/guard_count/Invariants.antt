use Rattle.std.proofs.Common.{◌≡◌, ◌+◌, ◌≤◌, map, drop}
use Rattle.and_program.specs.Items.{node_item, guard_length}
use Rattle.and_program.proofs.entry.guard_count.Given as goal

abbrev pub invariant-loop-item : goal.invariant-loop-item
invariant-loop-item l = record {
  all : l.count + guard_length (map node_item (drop l.item-index l.items)) ≡ guard_length (map node_item l.items);
  few : l.count ≤ l.item-index;
}
