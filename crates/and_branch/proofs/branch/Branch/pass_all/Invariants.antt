use Rattle.std.proofs.Common.{length}
use Rattle.and_branch_parts.specs.Branches.{SameKey}
use Rattle.and_branch_parts.specs.Next.{IsMoved}
use Rattle.and_branch.proofs.branch.Branch.pass_all.Given as goal

abbrev pub invariant-loop-self : goal.invariant-loop-self
invariant-loop-self g l = record { same : SameKey l.initial.self l.self; moved : IsMoved l.initial.self l.self }

abbrev pub decreases-loop-self : goal.decreases-loop-self
decreases-loop-self g l = length l.self.right
