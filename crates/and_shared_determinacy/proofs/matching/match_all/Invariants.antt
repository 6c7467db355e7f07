use Rattle.std.proofs.Common.{◌≡◌, ◌≤◌}
use Rattle.and_cells.specs.Seen.{Keeps}
use Rattle.and_shared_determinacy.specs.Truths.{CanFollowPairs}
use Rattle.and_shared_determinacy.proofs.MatchSteps.{HasMatched}
use Rattle.and_shared_determinacy.proofs.matching.match_all.Given as goal

abbrev pub invariant-loop-next : goal.invariant-loop-next
invariant-loop-next g l = record {
  over : g.C.Cells.over l.cells ≡ g.C.Cells.over l.fn.cells;
  grew : g.C.Cells.Grew l.fn.cells l.cells;
  keeps : Keeps (g.C.Cells.seen l.fn.cells) (g.C.Cells.seen l.cells);
  ready : CanFollowPairs g.C.Cells.program (g.C.Cells.seen l.cells) l.pairs;
  matched : HasMatched g.C.Cells.program l.fn.pairs (g.C.Cells.seen l.fn.cells) (g.C.Cells.seen l.cells) l.pairs;
  fuel : l.fuel ≤ l.fn.fuel;
}

abbrev pub decreases-loop-next : goal.decreases-loop-next
decreases-loop-next g l = l.fuel
