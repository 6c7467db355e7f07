use Rattle.std.proofs.Common.{◌≡◌, ◌++◌, map, take}
use Rattle.and_pending.proofs.WatchedGoals.{not_watched}
use Rattle.and_pending.proofs.filling.put_goals.Given as goal

abbrev pub invariant-loop-goal : goal.invariant-loop-goal
invariant-loop-goal l = l.list.items ≡ l.fn.list.items ++ map not_watched (take l.goal-index l.goals)
