use Rattle.std.proofs.Common.{◌≡◌, ◌≤◌, ◌++◌, length, take, drop, reverse}
use Rattle.and_proof.proofs.waiting.Waiting.all.Given as goal

abbrev pub invariant-loop-goal : goal.invariant-loop-goal
invariant-loop-goal l = l.goals ≡ take l.goal-index l.self.left.items

abbrev pub invariant-loop-place : goal.invariant-loop-place
invariant-loop-place l = record {
  goals : l.goals ≡ l.self.left.items ++ reverse (drop l.place l.self.right.items);
  within : l.place ≤ length l.self.right.items;
}

abbrev pub decreases-loop-place : goal.decreases-loop-place
decreases-loop-place l = l.place
