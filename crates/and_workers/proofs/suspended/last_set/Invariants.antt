use Rattle.std.proofs.Common.{◌≡◌, ◌≤◌, drop, length}
use Rattle.std.specs.Prelude.{All}
use Rattle.and_cells.specs.Seen.{OnlyReads}
use Rattle.and_workers.specs.Waiting.{LookedFree}
use Rattle.and_workers.proofs.suspended.last_set.Given as goal

abbrev pub invariant-loop-place : goal.invariant-loop-place
invariant-loop-place g l = record {
  within : l.place ≤ length l.waited;
  over : g.C.Cells.over l.cells ≡ g.C.Cells.over l.initial.cells;
  grew : g.C.Cells.Grew l.initial.cells l.cells;
  reads : OnlyReads (g.C.Cells.seen l.initial.cells) (g.C.Cells.seen l.cells);
  free : All (λ cell. LookedFree (g.C.Cells.shared (g.C.Cells.over l.initial.cells)) cell (g.C.Cells.seen l.initial.cells) (g.C.Cells.seen l.cells))
      (drop l.place l.waited);
}

abbrev pub decreases-loop-place : goal.decreases-loop-place
decreases-loop-place g l = l.place
