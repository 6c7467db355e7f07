use Rattle.std.proofs.Common.{length}
use Rattle.and_pending.specs.Pending.{HasPassedSleepers}
use Rattle.and_pending.proofs.pending.PendingGoals.pass_sleepers.Given as goal

abbrev pub invariant-loop-self : goal.invariant-loop-self
invariant-loop-self g l = HasPassedSleepers l.row l.fn.self l.self

abbrev pub decreases-loop-self : goal.decreases-loop-self
decreases-loop-self g l = length l.self.right
