use Rattle.std.proofs.Common.{◌≡◌}
use Rattle.and_cells.specs.Ranges.{IsInRangeOrHalf}
use Rattle.and_cells.proofs.References.{cells_behind}
use Rattle.and_cells.specs.Seen.{IsWrittenIfNumber, OnlyReads, LeadsTo}
use Rattle.and_cells.proofs.chain.deref.Given as goal

abbrev pub invariant-loop-at : goal.invariant-loop-at
invariant-loop-at g l = record {
  over : g.C.Cells.over l.cells ≡ g.C.Cells.over l.initial.cells;
  grew : g.C.Cells.Grew l.initial.cells l.cells;
  reads : OnlyReads (g.C.Cells.seen l.initial.cells) (g.C.Cells.seen l.cells);
  leads : LeadsTo (g.C.Cells.seen l.cells) l.fn.from l.at;
  in_range : IsInRangeOrHalf g.C.Cells.program (g.C.Cells.seen l.initial.cells).words l.at;
  written : IsWrittenIfNumber (g.C.Cells.seen l.cells) l.at;
}

abbrev pub decreases-loop-at : goal.decreases-loop-at
decreases-loop-at g l = cells_behind l.at
