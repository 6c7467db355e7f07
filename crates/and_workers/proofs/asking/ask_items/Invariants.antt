use Rattle.std.proofs.Common.{◌≡◌, ◌++◌, map, drop}
use Rattle.and_program.specs.Items.{node_item}
use Rattle.and_cells.specs.Parts.{named}
use Rattle.and_workers.specs.Asking.{item_pairs, has_fail}
use Rattle.and_workers.proofs.asking.ask_items.Given as goal

abbrev pub invariant-loop-item : goal.invariant-loop-item
invariant-loop-item l = record {
  asks : l.pairs ++ item_pairs (named l.loaded) l.floor (map node_item (drop l.item-index l.item-items))
      ≡ l.fn.pairs ++ item_pairs (named l.loaded) l.floor (map node_item l.item-items);
  fails : has_fail (map node_item (drop l.item-index l.item-items)) ≡ has_fail (map node_item l.item-items);
}
