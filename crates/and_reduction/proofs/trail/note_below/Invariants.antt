use Rattle.std.proofs.Common.{take}
use Rattle.and_reduction.specs.Trails.{AreNoted}
use Rattle.and_reduction.proofs.Noting.{noted_below}
use Rattle.and_reduction.proofs.trail.note_below.Given as goal

abbrev pub invariant-loop-cell : goal.invariant-loop-cell
invariant-loop-cell l = AreNoted (noted_below l.mark l.fn.noted.items) (noted_below l.mark l.noted.items) (take l.cell-index l.cells)
