use Rattle.std.proofs.Common.{refl}
use Rattle.and_branch_parts.proofs.LookedGoals.{no_steps}
use Rattle.and_branch.proofs.branch.Branch.look.Goals as goal

pub look_at-requires-clause-at : goal.look_at-requires-clause-at
look_at-requires-clause-at g c =
    let says = c.next_goal.ensures.goal c.in-Goal.goal c.in-Goal.is in
    λ _ _. record { branch = c.requires.branch; live = says.0; rest = says.1; next = says.2 }

pub returns-in-Failed-clause-steps : goal.returns-in-Failed-clause-steps
returns-in-Failed-clause-steps g c = no_steps g.N.Naming.program c.args.self.now

pub returns-in-Nothing-clause-steps : goal.returns-in-Nothing-clause-steps
returns-in-Nothing-clause-steps g c = no_steps g.N.Naming.program c.args.self.now

pub returns-in-Nothing-clause-came_to : goal.returns-in-Nothing-clause-came_to
returns-in-Nothing-clause-came_to g c = let says = c.next_goal.ensures.nothing c.in-Nothing.is in (refl, says.1, says.0)
