use Rattle.std.proofs.Common.{◌≡◌, ◌≤◌, map, drop}
use Rattle.and_program.specs.Items.{node_item}
use Rattle.and_cells.specs.Seen.{Seen, OnlyReads}
use Rattle.and_shared_determinacy.specs.Weighing.{IsGuardInRange, GuardFailsOver}
use Rattle.and_shared_determinacy.proofs.weighing.weigh_guard.Given as goal

abbrev pub invariant-loop-item : goal.invariant-loop-item
invariant-loop-item g l = record {
  over : g.C.Cells.over l.cells ≡ g.C.Cells.over l.fn.cells;
  grew : g.C.Cells.Grew l.fn.cells l.cells;
  reads : OnlyReads (g.C.Cells.seen l.fn.cells) (g.C.Cells.seen l.cells);
  in_range : IsGuardInRange g.C.Cells.program (g.C.Cells.seen l.fn.cells).words l.base (map node_item (drop l.item-index l.items));
  onward : (s : Seen) → GuardFailsOver g.C.Cells.program s l.base (map node_item (drop l.item-index l.items))
      → GuardFailsOver g.C.Cells.program s l.base (map node_item l.items);
  fuel : l.fuel ≤ l.fn.fuel;
}
