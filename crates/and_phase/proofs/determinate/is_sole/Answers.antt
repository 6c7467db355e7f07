use Rattle.std.proofs.Common.{subst, length}
use Rattle.and_cells.specs.Ranges.{NamedProgram, IsGoalInRange}
use Rattle.and_branch_laws.specs.Kept.{item_at}
use Rattle.and_branch.specs.Finding.{IsCallOrArithmetic}
use Rattle.and_phase.proofs.Calls.{can_be_judged}
use Rattle.and_phase.proofs.determinate.is_sole.Goals as goal

pub is_call-requires-clause-in_range : goal.is_call-requires-clause-in_range
is_call-requires-clause-in_range g c = (
  length c.args.branch.now.row,
  subst (λ (P : NamedProgram). IsGoalInRange P (length c.args.branch.now.row) c.args.goal) c.requires.program c.requires.seen.in_range,
)

pub is_call-requires-clause-kind : goal.is_call-requires-clause-kind
is_call-requires-clause-kind g c =
    subst (λ (P : NamedProgram). IsCallOrArithmetic (item_at P.program c.args.goal)) c.requires.program c.requires.seen.kind

pub narrow_goal-requires-clause-goal : goal.narrow_goal-requires-clause-goal
narrow_goal-requires-clause-goal g c =
    can_be_judged g.N.Naming.program c.args.loaded.now c.requires.program c.args.branch.now.row c.args.goal c.requires.seen
    (c.is_call.ensures.call c.if-not-is_call.false)
