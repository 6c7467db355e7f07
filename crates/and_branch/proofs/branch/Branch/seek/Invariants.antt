use Rattle.std.proofs.Common.{length}
use Rattle.and_branch_parts.specs.Branches.{SameKey}
use Rattle.and_branch_parts.specs.Next.{IsMoved}
use Rattle.and_branch_parts.proofs.SoughtGoals.{IsBefore}
use Rattle.and_branch.proofs.branch.Branch.seek.Given as goal

abbrev pub invariant-loop-goal : goal.invariant-loop-goal
invariant-loop-goal g l = record {
  same : SameKey l.initial.self l.self;
  moved : IsMoved l.initial.self l.self;
  there : IsBefore l.self l.goal;
}

abbrev pub decreases-loop-goal : goal.decreases-loop-goal
decreases-loop-goal g l = length l.self.left
