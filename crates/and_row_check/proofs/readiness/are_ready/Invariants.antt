use Rattle.std.proofs.Common.{take}
use Rattle.and_cells.specs.Parts.{named}
use Rattle.and_worker_laws.specs.Leavings.{AreReady}
use Rattle.and_row_check.proofs.readiness.are_ready.Given as goal

abbrev pub invariant-loop-goal : goal.invariant-loop-goal
invariant-loop-goal l = AreReady (named l.loaded) l.cells (take l.goal-index l.goals)
