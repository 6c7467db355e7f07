use Rattle.std.proofs.Common.{◌∷◌, sym, subst}
use Rattle.and_cells.specs.Ranges.{NamedProgram}
use Rattle.and_tree.specs.Passes.{TreeId, PassSeen}
use Rattle.and_tasks.specs.Working.{Has}
use Rattle.and_tasks.specs.declared.stack.Task.{Task}
use Rattle.and_tasks.proofs.Having.{items_still}
use Rattle.and_tasks.proofs.team.Team.put.Goals as goal

pub give_up_task-requires-clause-has : goal.give_up_task-requires-clause-has
give_up_task-requires-clause-has g c κs within =
    let P : NamedProgram = g.N.Naming.program in
    let tree : TreeId = c.args.shared.now.tree.now in
    let pass : PassSeen = c.args.self.now.pass in
    let (others, has) = c.requires.has in
    (others, subst (λ (t : Task g.row.N.Denot). Has P tree pass (t ∷ others)) (sym c.in-Err.ensures.value_returned) has)

pub returns-in-Err-clause-given_up : goal.returns-in-Err-clause-given_up
returns-in-Err-clause-given_up g c =
    let P : NamedProgram = g.N.Naming.program in
    let tree : TreeId = c.args.shared.now.tree.now in
    let pass : PassSeen = c.args.self.now.pass in (
      items_still c.give_up_task.new.self.stack c.push.new.self c.args.self.now.stack.items c.give_up_task.ensures.same.2 c.in-Err.ensures.items,
      λ others has. c.give_up_task.ensures.has others
          (subst (λ (t : Task g.row.N.Denot). Has P tree pass (t ∷ others)) (sym c.in-Err.ensures.value_returned) has),
    )
