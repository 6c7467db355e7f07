use Rattle.std.proofs.Common.{◌∙◌}
use Rattle.and_branch.specs.States.{numbers}
use Rattle.and_tasks.proofs.Ready.{forked_served, forked_shares, told_fork, back_fork}
use Rattle.and_tasks.proofs.Turns.{fork_there, split_there, works_split}
use Rattle.and_tasks.proofs.team.Team.fork.Goals as goal

pub give_up_key-requires-clause-has : goal.give_up_key-requires-clause-has
give_up_key-requires-clause-has g c κs within = (c.args.hand.now.branch, c.of-key.ensures ∙ c.key.ensures, c.requires.ready.works.has)

pub fork_in_place-requires-clause-fork : goal.fork_in_place-requires-clause-fork
fork_in_place-requires-clause-fork g c =
    let s = c.args.self.now in
    fork_there g.N.Naming.program c.args.shared.now.tree.now s.pass s.found c.args.hand.now.branch s.stack.items c.args.goal c.args.clauses c.args.cut
    c.requires.ready.works c.requires.state

pub put_children-requires-clause-works : goal.put_children-requires-clause-works
put_children-requires-clause-works g c κs within =
    let s = c.args.self.now in
    works_split g.N.Naming.program c.args.shared.now.tree.now s.pass s.found c.args.hand.now.branch s.stack.items c.args.goal (numbers c.args.clauses)
    c.in-Ok.point c.requires.ready.works c.in-Ok.ensures.fork

pub put_children-requires-clause-split : goal.put_children-requires-clause-split
put_children-requires-clause-split g c κs within =
    let s = c.args.self.now in
    split_there g.N.Naming.program c.args.shared.now.tree.now s.pass s.found c.args.hand.now.branch s.stack.items c.args.goal c.args.clauses c.args.cut
    c.in-Ok.point c.requires.ready.works c.requires.state c.in-Ok.ensures.fork c.in-Ok.ensures.children

pub put_children-requires-clause-told : goal.put_children-requires-clause-told
put_children-requires-clause-told g c κs within =
    told_fork g.N.Naming.program c.args.hand.now.branch c.in-Ok.point c.fork_in_place.new.told c.in-Ok.ensures.fork.parent c.in-Ok.ensures.told

pub put_children-requires-clause-left : goal.put_children-requires-clause-left
put_children-requires-clause-left g c κs within =
    back_fork c.args.hand.now.branch c.fork_in_place.new.self c.in-Ok.point c.in-Ok.ensures.fork.parent c.in-Ok.ensures.back

pub put_children-requires-clause-served : goal.put_children-requires-clause-served
put_children-requires-clause-served g c κs within =
    let s = c.args.self.now in
    forked_served c.args.hand.now c.in-Ok.point s.stack.items c.in-Ok.ensures.fork.parent c.in-Ok.ensures.begins c.requires.ready.served

pub put_children-requires-clause-shares : goal.put_children-requires-clause-shares
put_children-requires-clause-shares g c κs within =
    let s = c.args.self.now in
    forked_shares s.found c.args.hand.now c.in-Ok.point c.fork_in_place.new.self c.in-Ok.ensures.key c.in-Ok.ensures.begins
    c.requires.ready.shares

pub give_up_key-requires-in-Err-clause-has : goal.give_up_key-requires-in-Err-clause-has
give_up_key-requires-in-Err-clause-has g c κs within = (c.args.hand.now.branch, c.of-key.ensures ∙ c.key.ensures, c.requires.ready.works.has)
