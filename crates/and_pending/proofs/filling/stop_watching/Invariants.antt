use Rattle.std.proofs.Common.{◌≡◌, ◌++◌, map, take, drop}
use Rattle.and_pending.proofs.WatchedGoals.{cleared}
use Rattle.and_pending.proofs.filling.stop_watching.Given as goal

abbrev pub invariant-loop-place : goal.invariant-loop-place
invariant-loop-place l = l.list.items ≡ map cleared (take l.place l.fn.list.items) ++ drop l.place l.fn.list.items
