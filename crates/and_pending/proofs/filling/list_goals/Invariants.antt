use Rattle.std.proofs.Common.{◌≡◌, ◌++◌, map, take}
use Rattle.and_pending.proofs.WatchedGoals.{goal_of}
use Rattle.and_pending.proofs.filling.list_goals.Given as goal

abbrev pub invariant-loop-pending : goal.invariant-loop-pending
invariant-loop-pending l = l.list.items ≡ l.fn.list.items ++ map goal_of (take l.pending-index l.goals)
