use Rattle.std.proofs.Common.{◌+◌, ◌-◌, ◌*◌, ◌^◌, ◌≤◌}
use Rattle.and_branch_parts.specs.Branches.{IsBranch, SameKey}
use Rattle.and_branch_parts.specs.Rounds.{StepsOn, goal_count}
use Rattle.and_branch.proofs.branch.Branch.go_rounds.Given as goal

abbrev pub invariant-rounds : goal.invariant-rounds
invariant-rounds g l = record {
  same : SameKey l.initial.self l.self;
  steps : StepsOn g.N.Naming.program l.initial.self l.self;
  branch : IsBranch g.N.Naming.program l.self;
  some : 1 ≤ l.most;
}

abbrev pub decreases-rounds : goal.decreases-rounds
decreases-rounds g l = (l.self.limit - l.self.used) * 2 ^ 64 + goal_count l.self
