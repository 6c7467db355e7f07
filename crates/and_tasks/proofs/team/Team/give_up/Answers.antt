use Rattle.std.proofs.Common.{◌≡◌, ◌∙◌, ◌+◌, List, length, Vec, ap, sym, subst, refl, arith}
use Rattle.std.specs.declared.alloc.Global.{Global}
use Rattle.std.proofs.lemmas.List.{nil_from_length, length_push}
use Rattle.and_cells.specs.Ranges.{NamedProgram}
use Rattle.and_tree.specs.Passes.{TreeId, PassSeen}
use Rattle.and_tasks.specs.Working.{Has}
use Rattle.and_tasks.specs.declared.stack.Task.{Task}
use Rattle.and_tasks.proofs.Having.{has_last_off, has_none_off, has_nothing}
use Rattle.and_tasks.proofs.team.Team.give_up.Goals as goal

pub loop-task-init : goal.loop-task-init
loop-task-init g c = (c.requires.has, refl)

pub give_up_task-requires-clause-has : goal.give_up_task-requires-clause-has
give_up_task-requires-clause-has g c κs within =
    let P : NamedProgram = g.N.Naming.program in
    let tree : TreeId = c.args.shared.now.tree.now in
    let pass : PassSeen = c.loop-task.self.pass in
    let rest : List (Task g.row.N.Denot) = c.pop.new.self.items in (
      rest,
      has_last_off P tree pass c.loop-task.self.stack.items rest c.in-Some.task c.in-Some.ensures.items c.loop-task.invariant.0,
    )

pub loop-task-preserved : goal.loop-task-preserved
loop-task-preserved g c =
    let P : NamedProgram = g.N.Naming.program in
    let tree : TreeId = c.args.shared.now.tree.now in
    let pass : PassSeen = c.loop-task.self.pass in
    let rest : List (Task g.row.N.Denot) = c.pop.new.self.items in
    let same = c.give_up_task.ensures.same in (
      subst (λ (v : Vec (Task g.row.N.Denot) Global). Has P tree c.give_up_task.new.self.pass v.items) (sym same.2)
          (c.give_up_task.ensures.has rest
          (has_last_off P tree pass c.loop-task.self.stack.items rest c.in-Some.task c.in-Some.ensures.items c.loop-task.invariant.0)),
      same.0 ∙ c.loop-task.invariant.1,
    )

pub loop-task-smaller : goal.loop-task-smaller
loop-task-smaller g c =
    let same = ap (λ (v : Vec (Task g.row.N.Denot) Global). length v.items) c.give_up_task.ensures.same.2 in
    let more : length c.loop-task.self.stack.items ≡ length c.pop.new.self.items + 1 =
    ap length c.in-Some.ensures.items ∙ length_push c.pop.new.self.items c.in-Some.task in
    omega (arith, same, more)

pub returns-clause-has : goal.returns-clause-has
returns-clause-has g c =
    let P : NamedProgram = g.N.Naming.program in
    let tree : TreeId = c.args.shared.now.tree.now in
    let long = c.pop.new.self.ok.0 in
    let none = c.in_default.ensures.cases.1 in (
      nil_from_length c.pop.new.self.items (omega (arith, long, none)),
      has_none_off P tree c.loop-task.self.pass c.loop-task.self.stack.items c.pop.new.self.items c.in_default.ensures.items c.loop-task.invariant.0,
    )

pub returns-clause-hand : goal.returns-clause-hand
returns-clause-hand g c =
    let P : NamedProgram = g.N.Naming.program in
    let tree : TreeId = c.args.shared.now.tree.now in
    let (none, has) = returns-clause-has g c in
    has_nothing P tree c.loop-task.self.pass c.pop.new.self.items none has
