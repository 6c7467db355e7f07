use Rattle.std.proofs.Common.{◌∷◌, ◌∙◌, subst}
use Rattle.and_cells.specs.Ranges.{NamedProgram}
use Rattle.and_histories.specs.PlainTree as plain
use Rattle.and_tree.specs.Passes.{TreeId, PassSeen}
use Rattle.and_tree.specs.Replies.{is_last}
use Rattle.and_tasks.specs.Working.{Has}
use Rattle.and_tasks.specs.declared.stack.Task.{Task}
use Rattle.and_tasks.proofs.Having.{all_keys, key_there, has_ended_under, has_unleft}
use Rattle.and_tasks.proofs.team.Team.give_up_task.Goals as goal

pub give_up-requires-clause-hand : goal.give_up-requires-clause-hand
give_up-requires-clause-hand g c =
    let P : NamedProgram = g.N.Naming.program in
    let tree : TreeId = c.args.shared.now.tree.now in
    let pass : PassSeen = c.args.self.now.pass in
    let (others, has) = c.requires.has in
    key_there P tree pass c.in-One.branch others c.of.result.value (c.of.ensures ∙ c.key.ensures)
    (subst (λ (t : Task g.row.N.Denot). Has P tree pass (t ∷ others)) c.in-One.is has)

pub give_up_children-requires-clause-hand : goal.give_up_children-requires-clause-hand
give_up_children-requires-clause-hand g c κs within =
    let P : NamedProgram = g.N.Naming.program in
    let tree : TreeId = c.args.shared.now.tree.now in
    let pass : PassSeen = c.args.self.now.pass in
    let (others, has) = c.requires.has in
    (all_keys others, (subst (λ (t : Task g.row.N.Denot). Has P tree pass (t ∷ others)) c.in-Children.is has).hand)

pub returns-in-One-clause-has : goal.returns-in-One-clause-has
returns-in-One-clause-has g c = λ others has.
    let P : NamedProgram = g.N.Naming.program in
    let tree : TreeId = c.args.shared.now.tree.now in
    let pass : PassSeen = c.args.self.now.pass in
    has_ended_under P tree c.of.result.value c.in-One.branch others plain.given_up (is_last c.give_up.result) pass c.give_up.new.pass
    (c.of.ensures ∙ c.key.ensures) c.give_up.ensures (subst (λ (t : Task g.row.N.Denot). Has P tree pass (t ∷ others)) c.in-One.is has)

pub give_up_children-requires-clause-longer : goal.give_up_children-requires-clause-longer
give_up_children-requires-clause-longer g c κs within =
    let P : NamedProgram = g.N.Naming.program in
    let (others, has) = c.requires.has in
    (subst (λ (t : Task g.row.N.Denot). Has P c.args.shared.now.tree.now c.args.self.now.pass (t ∷ others)) c.in-Children.is has).tasks_are.0.longer

pub returns-in-Left-clause-has : goal.returns-in-Left-clause-has
returns-in-Left-clause-has g c = λ others has.
    let P : NamedProgram = g.N.Naming.program in
    let tree : TreeId = c.args.shared.now.tree.now in
    let pass : PassSeen = c.args.self.now.pass in
    has_unleft P tree pass _ others (subst (λ (t : Task g.row.N.Denot). Has P tree pass (t ∷ others)) c.in-Left.is has)
