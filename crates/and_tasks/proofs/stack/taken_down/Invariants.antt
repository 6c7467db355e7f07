use Rattle.std.proofs.Common.{◌≤◌}
use Rattle.and_tasks.specs.Copying.{IsCopyAt}
use Rattle.and_tasks.proofs.stack.taken_down.Given as goal

-- The copy is one for the fork at the place.
abbrev pub invariant-loop-at : goal.invariant-loop-at
invariant-loop-at g l = IsCopyAt l.stack l.at l.copy × (l.at ≤ l.place)

abbrev pub decreases-loop-at : goal.decreases-loop-at
decreases-loop-at g l = l.at
