use Rattle.and_branch.proofs.LoadedPrograms.{is_loaded}
use Rattle.and_phase.proofs.JoinedBranches.{is_worked, steps_on}
use Rattle.and_phase.proofs.joining.made_again.Goals as goal

pub work_of-requires : goal.work_of-requires
work_of-requires g c = c.requires.joined.whole.whole.sound

pub rebuild-requires-clause-worked : goal.rebuild-requires-clause-worked
rebuild-requires-clause-worked g c =
    let P = g.N.Naming.program in
    let s = c.skeleton_is_of_the_program.ensures in
    let loaded = is_loaded P c.args.loaded.now c.requires.program s.skeleton s.own_variables s.few in
    let (t, b) = c.requires.branch in
    let (u, worked) = is_worked P loaded.own c.phases_leave_branches.ensures c.args.parts.now c.requires.live c.args.joined c.requires.joined
    c.work_of.result c.work_of.ensures t b in
    (t, u, worked)

pub returns-clause-steps : goal.returns-clause-steps
returns-clause-steps g c =
    let P = g.N.Naming.program in
    let s = c.skeleton_is_of_the_program.ensures in
    let loaded = is_loaded P c.args.loaded.now c.requires.program s.skeleton s.own_variables s.few in
    steps_on P _ c.args.parts.now c.work_of.result c.rebuild.result c.rebuild.ensures.trail c.rebuild.ensures.stands
    (is_worked P loaded.own c.phases_leave_branches.ensures c.args.parts.now c.requires.live c.args.joined c.requires.joined c.work_of.result
    c.work_of.ensures)
