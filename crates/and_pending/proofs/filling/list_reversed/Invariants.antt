use Rattle.std.proofs.Common.{◌≡◌, ◌≤◌, ◌++◌, map, length, reverse, drop}
use Rattle.and_pending.proofs.WatchedGoals.{goal_of}
use Rattle.and_pending.proofs.filling.list_reversed.Given as goal

abbrev pub invariant-loop-place : goal.invariant-loop-place
invariant-loop-place l = (l.place ≤ length l.goals) × (l.list.items ≡ l.fn.list.items ++ map goal_of (reverse (drop l.place l.goals)))

abbrev pub decreases-loop-place : goal.decreases-loop-place
decreases-loop-place l = l.place
