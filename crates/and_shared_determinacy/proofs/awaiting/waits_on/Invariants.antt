use Rattle.std.proofs.Common.{◌≡◌}
use Rattle.and_cells.specs.Seen.{OnlyReads}
use Rattle.and_clause_index.specs.Selecting.{NoneWaits}
use Rattle.and_shared_determinacy.proofs.awaiting.waits_on.Given as goal

abbrev pub invariant-loop-place : goal.invariant-loop-place
invariant-loop-place g l = record {
  over : g.C.Cells.over l.cells ≡ g.C.Cells.over l.fn.cells;
  grew : g.C.Cells.Grew l.fn.cells l.cells;
  reads : OnlyReads (g.C.Cells.seen l.fn.cells) (g.C.Cells.seen l.cells);
  before : NoneWaits g.C.Cells.program (g.C.Cells.seen l.cells) l.call.node l.call.base l.place;
}
