use Rattle.std.proofs.Common.{◌≡◌}
use Rattle.and_arith.proofs.Looking.{IsLookedAt}
use Rattle.and_arith.proofs.chains.follow.Given as goal

abbrev pub invariant-loop-word : goal.invariant-loop-word
invariant-loop-word g l = record {
  over : g.C.Cells.over l.cells ≡ g.C.Cells.over l.fn.cells;
  grew : g.C.Cells.Grew l.fn.cells l.cells;
  looked : IsLookedAt g.C.Cells.program (g.C.Cells.shared (g.C.Cells.over l.fn.cells)) (g.C.Cells.seen l.fn.cells) (g.C.Cells.seen l.cells)
      l.fn.from l.cell l.word;
}

abbrev pub decreases-loop-word : goal.decreases-loop-word
decreases-loop-word g l = l.cell
