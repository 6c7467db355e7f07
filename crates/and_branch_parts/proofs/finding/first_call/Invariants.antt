use Rattle.std.proofs.Common.{take}
use Rattle.and_pending.specs.Pending.{goals_of}
use Rattle.and_branch_parts.specs.Finding.{AllCalls}
use Rattle.and_branch_parts.proofs.finding.first_call.Given as goal

abbrev pub invariant-loop-place : goal.invariant-loop-place
invariant-loop-place g l = AllCalls g.N.Naming.program (λ h. ⊥) (take l.place (goals_of l.goals.left))
