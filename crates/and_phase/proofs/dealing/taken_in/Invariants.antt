use Rattle.std.proofs.Common.{length}
use Rattle.and_phase.proofs.Jobs.{HasTakenIn}
use Rattle.and_phase.proofs.dealing.taken_in.Given as goal

abbrev pub invariant-loop-last : goal.invariant-loop-last
invariant-loop-last l = HasTakenIn l.fn.ended.items l.ended.items l.passes l.tolds.items

abbrev pub decreases-loop-last : goal.decreases-loop-last
decreases-loop-last l = length l.ended.items
