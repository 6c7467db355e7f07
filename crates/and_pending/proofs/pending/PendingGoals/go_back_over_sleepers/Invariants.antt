use Rattle.std.proofs.Common.{length}
use Rattle.and_pending.proofs.Passing.{IsGoneOver}
use Rattle.and_pending.proofs.pending.PendingGoals.go_back_over_sleepers.Given as goal

abbrev pub invariant-loop-self : goal.invariant-loop-self
invariant-loop-self g l = IsGoneOver l.row l.fn.self l.self

abbrev pub decreases-loop-self : goal.decreases-loop-self
decreases-loop-self g l = length l.self.left
