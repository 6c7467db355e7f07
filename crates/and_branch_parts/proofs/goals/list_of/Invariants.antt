use Rattle.std.proofs.Common.{◌≡◌, take}
use Rattle.and_branch_parts.proofs.goals.list_of.Given as goal

abbrev pub invariant-loop-goal : goal.invariant-loop-goal
invariant-loop-goal l = l.list ≡ take l.goal-index l.goals
