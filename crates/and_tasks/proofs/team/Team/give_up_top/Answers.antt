use Rattle.std.proofs.Common.{List, Vec, sym, subst}
use Rattle.std.specs.declared.alloc.Global.{Global}
use Rattle.and_cells.specs.Ranges.{NamedProgram}
use Rattle.and_tree.specs.Passes.{TreeId}
use Rattle.and_tasks.specs.Working.{Has}
use Rattle.and_tasks.specs.declared.stack.Task.{Task}
use Rattle.and_tasks.proofs.Having.{has_last_off, has_none_off}
use Rattle.and_tasks.proofs.team.Team.give_up_top.Goals as goal

pub give_up_task-requires-clause-has : goal.give_up_task-requires-clause-has
give_up_task-requires-clause-has g c κs within =
    let s = c.args.self.now in
    let rest : List (Task g.row.N.Denot) = c.pop.new.self.items in
    (rest, has_last_off g.N.Naming.program c.args.shared.now.tree.now s.pass s.stack.items rest c.in-Some.task c.in-Some.ensures.items c.requires.has)

pub returns-in-Some-clause-has : goal.returns-in-Some-clause-has
returns-in-Some-clause-has g c =
    let P : NamedProgram = g.N.Naming.program in
    let tree : TreeId = c.args.shared.now.tree.now in
    let s = c.args.self.now in
    let rest : List (Task g.row.N.Denot) = c.pop.new.self.items in
    subst (λ (v : Vec (Task g.row.N.Denot) Global). Has P tree c.give_up_task.new.self.pass v.items) (sym c.give_up_task.ensures.same.2)
    (c.give_up_task.ensures.has rest (has_last_off P tree s.pass s.stack.items rest c.in-Some.task c.in-Some.ensures.items c.requires.has))

pub returns-in-None-clause-has : goal.returns-in-None-clause-has
returns-in-None-clause-has g c =
    let s = c.args.self.now in
    has_none_off g.N.Naming.program c.args.shared.now.tree.now s.pass s.stack.items c.pop.new.self.items c.in-None.ensures.items c.requires.has
