use Rattle.std.proofs.Common.{◌≡◌, ◌+◌, ◌≤◌, map, drop}
use Rattle.and_program.specs.Items.{node_item, pairs}
use Rattle.and_program.proofs.entry.pair_count.Given as goal

abbrev pub invariant-loop-item : goal.invariant-loop-item
invariant-loop-item l = record {
  all : l.count + pairs (map node_item (drop l.item-index l.items)) ≡ pairs (map node_item l.items);
  few : l.count ≤ l.item-index;
}
