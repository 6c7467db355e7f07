use Rattle.std.proofs.Common.{sym, subst}
use Rattle.and_pending.specs.Pending.{goals_of}
use Rattle.and_branch_parts.specs.Branches.{Held}
use Rattle.and_branch_parts.specs.Next.{HasNextCall}
use Rattle.and_branch_parts.proofs.LoadedPrograms.{is_loaded}
use Rattle.and_branch_parts.proofs.NextReduced.{next_judged}
use Rattle.and_branch_parts.proofs.PassedGoals.{first_goal}
use Rattle.and_branch.proofs.NextNodes.{node_of_seen}
use Rattle.and_branch.proofs.branch.Branch.next_node.Goals as goal

pub node_of-requires-clause-goal : goal.node_of-requires-clause-goal
node_of-requires-clause-goal g c =
    let P = g.N.Naming.program in
    let says = c.skeleton_is_of_the_program.ensures in
    let loaded = is_loaded P c.args.loaded.now c.requires.program says.skeleton says.own_variables says.few in
    let (w, rest, next, same) = c.in-Some.ensures.some in
    let has = subst (λ (b : Held). HasNextCall P b c.requires.next.0) (sym c.self.view_is) c.requires.next.1 in
    next_judged P loaded _ c.requires.next.0 c.in-Some.goal (goals_of rest) has
    (first_goal c.self.inside.goals.right rest w c.in-Some.goal next same)

pub returns : goal.returns
returns g c =
    let P = g.N.Naming.program in
    let (w, rest, next, same) = c.in-Some.ensures.some in
    node_of_seen P _ c.args.self.now c.self.view_is c.in-Some.goal (goals_of rest)
    (first_goal c.self.inside.goals.right rest w c.in-Some.goal next same) c.node_of.result.0 c.node_of.ensures
