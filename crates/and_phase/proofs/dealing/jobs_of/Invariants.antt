use Rattle.std.proofs.Common.{length}
use Rattle.and_phase.proofs.Jobs.{HasJobs}
use Rattle.and_phase.proofs.dealing.jobs_of.Given as goal

abbrev pub invariant-loop-hand : goal.invariant-loop-hand
invariant-loop-hand l = HasJobs (length l.fn.hands.items) l.fn.passes (length l.hands.items) l.passes l.jobs.items

abbrev pub decreases-loop-hand : goal.decreases-loop-hand
decreases-loop-hand l = length l.hands.items
