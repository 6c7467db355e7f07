use Rattle.std.proofs.Common.{◌≡◌, ◌+◌, length}
use Rattle.and_phase.proofs.dealing.hands_of.Given as goal

abbrev pub invariant-loop-hand : goal.invariant-loop-hand
invariant-loop-hand l = length l.hands.items + length l.list ≡ l.workers

abbrev pub decreases-loop-hand : goal.decreases-loop-hand
decreases-loop-hand l = length l.list
