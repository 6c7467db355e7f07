use Rattle.and_histories.specs.PlainTree as plain
use Rattle.and_tree.specs.Replies.{is_last}
use Rattle.and_tasks.proofs.Having.{key_there, has_ended_under}
use Rattle.and_tasks.proofs.team.Team.give_up_key.Goals as goal

pub give_up-requires-clause-tree : goal.give_up-requires-clause-tree
give_up-requires-clause-tree g c = let (b, is, has) = c.requires.has in has.of_tree

pub give_up-requires-clause-hand : goal.give_up-requires-clause-hand
give_up-requires-clause-hand g c =
    let s = c.args.self.now in
    let (b, is, has) = c.requires.has in
    key_there g.N.Naming.program c.args.shared.now.tree.now s.pass b s.stack.items c.args.key.now.value is has

pub returns-clause-has : goal.returns-clause-has
returns-clause-has g c =
    let s = c.args.self.now in
    let (b, is, has) = c.requires.has in
    has_ended_under g.N.Naming.program c.args.shared.now.tree.now c.args.key.now.value b s.stack.items plain.given_up (is_last c.give_up.result)
    s.pass c.give_up.new.pass is c.give_up.ensures has
