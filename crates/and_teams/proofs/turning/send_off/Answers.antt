use Rattle.std.proofs.Common.{[], ◌∙◌, sym, subst}
use Rattle.and_cells.specs.Ranges.{NamedProgram}
use Rattle.and_code.specs.Telling.{IsTold}
use Rattle.and_histories.specs.PlainTree as plain
use Rattle.and_tree.specs.Replies.{is_last}
use Rattle.and_tasks.proofs.Having.{key_there, has_ended_under}
use Rattle.and_tasks.proofs.Ready.{ready_alone}
use Rattle.and_teams.proofs.turning.send_off.Goals as goal

pub phase_to_state-advanced-requires-clause-branch : goal.phase_to_state-advanced-requires-clause-branch
phase_to_state-advanced-requires-clause-branch g c κs within =
    let stands = c.requires.works.has.tasks_are.0 in (stands.tree, stands.branch)

pub go_by-requires-clause-ready : goal.go_by-requires-clause-ready
go_by-requires-clause-ready g c κs within =
    let s = c.args.team.now in
    let done = c.in-Ok.ensures.advanced in
    let told = c.untold-told.result in
    ready_alone g.N.Naming.program c.args.shared.now.tree.now s.pass s.found s.stack.items c.args.branch c.in-Ok.done.branch told c.requires.works
    c.requires.served done.same (λ t branch. let u = done.steps.each t branch in (u.0, u.1))
    (subst (λ (R : NamedProgram). IsTold R.program [] told []) (sym c.requires.program) c.untold-told.ensures.told) c.untold-told.ensures.length

pub go_by-requires-clause-state : goal.go_by-requires-clause-state
go_by-requires-clause-state g c κs within = c.in-Ok.ensures.advanced.judged

pub go_by-requires-clause-at_rest : goal.go_by-requires-clause-at_rest
go_by-requires-clause-at_rest g c κs within = c.in-Ok.ensures.advanced.at_rest

pub give_up-requires-clause-hand : goal.give_up-requires-clause-hand
give_up-requires-clause-hand g c =
    let s = c.args.team.now in
    key_there g.N.Naming.program c.args.shared.now.tree.now s.pass c.args.branch s.stack.items c.of.result.value
    (c.of.ensures ∙ c.in-Err.ensures.no_room) c.requires.works.has

pub returns-in-Err-clause-has : goal.returns-in-Err-clause-has
returns-in-Err-clause-has g c =
    let s = c.args.team.now in
    has_ended_under g.N.Naming.program c.args.shared.now.tree.now c.of.result.value c.args.branch s.stack.items plain.given_up
    (is_last c.give_up.result) s.pass c.give_up.new.pass (c.of.ensures ∙ c.in-Err.ensures.no_room) c.give_up.ensures c.requires.works.has
