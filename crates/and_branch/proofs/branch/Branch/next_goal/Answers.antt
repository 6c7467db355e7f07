use Rattle.std.proofs.Common.{◌≡◌, sym, ◌∙◌, ap}
use Rattle.and_pending.specs.Pending.{goals_of}
use Rattle.and_branch_parts.specs.Branches.{Held}
use Rattle.and_branch_parts.proofs.PassedGoals.{first_goal}
use Rattle.and_branch.proofs.branch.Branch.next_goal.Goals as goal

pub returns-in-Some-clause-goal : goal.returns-in-Some-clause-goal
returns-in-Some-clause-goal g c = λ h e.
    let (w, rest, there, same) = c.in-Some.ensures.some in
    let is : c.in-Some.goal ≡ h = cc in (
      sym (ap (λ (b : Held). b.is_failed) c.self.view_is) ∙ c.if-self.false,
      goals_of rest,
      sym (ap (λ (b : Held). b.right) c.self.view_is) ∙ first_goal c.self.inside.goals.right rest w h there (same ∙ is),
    )
