use Rattle.std.proofs.Common.{take}
use Rattle.std.specs.Prelude.{All}
use Rattle.and_pending.proofs.WatchedGoals.{SleepsIn}
use Rattle.and_pending.proofs.pending.all_sleep.Given as goal

abbrev pub invariant-loop-pending : goal.invariant-loop-pending
invariant-loop-pending g l = All (SleepsIn l.cells l.row) (take l.pending-index l.goals)
