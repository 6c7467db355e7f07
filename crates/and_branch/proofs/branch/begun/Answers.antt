use Rattle.std.proofs.Common.{[], Ok, map, ap, sym, subst, ◌∙◌}
use Rattle.and_model.specs.Programs.{clause_weight}
use Rattle.and_cells.specs.Ranges.{NamedProgram}
use Rattle.and_code.specs.Written.{all_written}
use Rattle.and_branch_laws.specs.Kept.{goal_of}
use Rattle.and_branch_laws.specs.Reducing.{body_goals}
use Rattle.and_branch_parts.specs.Next.{HasPut}
use Rattle.and_branch_parts.proofs.LoadedPrograms.{is_loaded}
use Rattle.and_branch_parts.proofs.PassedGoals.{first_left, first_right, first_watched}
use Rattle.and_branch_parts.proofs.RootedBranches.{rooted}
use Rattle.and_branch.proofs.branch.begun.Goals as goal

pub returns-clause-branch : goal.returns-clause-branch
returns-clause-branch g c =
    let P = g.N.Naming.program in
    let says = c.skeleton_is_of_the_program.ensures in
    let loaded = is_loaded P c.args.loaded.now c.requires.program says.skeleton says.own_variables says.few in
    let same = sym c.requires.program in
    let weight = c.weight.ensures ∙ ap (λ (p : NamedProgram). clause_weight p.program.query) same in
    let put = subst (λ (p : NamedProgram). HasPut (map goal_of (body_goals 0 0 [] 0 p.program.query.body)) c.new-goals.result c.push_body_from.new.goals)
    same c.in_ok-push_body_from.ensures in
    rooted P loaded _ c.requires.fits c.requires.limit c.new.ensures (ap all_written c.new-2.ensures) weight
    (λ failed. c.begin.ensures.unsolved (c.in_ok-entered.was ∙ ap Ok (c.has_failed.ensures.failed failed)))
    (λ live. c.begin.ensures.solved (c.in_ok-entered.was ∙ ap Ok (c.has_failed.ensures.solved live)))
    (first_left c.new-goals.result c.push_body_from.new.goals _ c.new-goals.ensures put)
    (first_right c.new-goals.result c.push_body_from.new.goals _ c.new-goals.ensures put)
    (first_watched c.new-goals.result c.push_body_from.new.goals _ c.new-goals.ensures put)
