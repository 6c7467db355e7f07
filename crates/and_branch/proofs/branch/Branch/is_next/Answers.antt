use Rattle.std.proofs.Common.{sym, ◌∙◌, ap}
use Rattle.std.proofs.lemmas.Bool.{eqb-true}
use Rattle.and_pending.specs.Pending.{goals_of}
use Rattle.and_branch_parts.specs.Branches.{Held}
use Rattle.and_branch_parts.proofs.PassedGoals.{first_goal}
use Rattle.and_branch.proofs.branch.Branch.is_next.Goals as goal

pub returns-then-next-goal-clause-next : goal.returns-then-next-goal-clause-next
returns-then-next-goal-clause-next g c = λ e.
    let (w, rest, there, same) = c.in-Some.ensures.some in
    let h = c.in-Some.next in (
      h,
      goals_of rest,
      sym (ap (λ (b : Held). b.right) c.self.view_is) ∙ first_goal c.self.inside.goals.right rest w h there same,
      (c.if-next-goal.true, eqb-true h.item c.args.goal.item e),
    )
