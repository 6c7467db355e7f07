use Rattle.std.proofs.lemmas.Result.{on_ok_weaker}
use Rattle.and_tasks.specs.declared.stack.Task.TheVariants.{One}
use Rattle.and_tasks.proofs.Sharing.{at_work_below, has_either_below}
use Rattle.and_tasks.proofs.team.Team.put_branch.Goals as goal

pub put_below-requires-clause-has : goal.put_below-requires-clause-has
put_below-requires-clause-has g c κs within = (c.args.self.now.stack.items, c.requires.works.has)

pub returns-clause-has : goal.returns-clause-has
returns-clause-has g c =
    let s = c.args.self.now in
    let put = c.put_below in
    has_either_below g.N.Naming.program c.args.shared.now.tree.now put.result s.pass put.new.self.pass (One c.args.branch) s.stack.items
    put.new.self.stack.items c.requires.works.has put.ensures.put put.ensures.given_up

pub returns-clause-at_work : goal.returns-clause-at_work
returns-clause-at_work g c =
    let s = c.args.self.now in
    let put = c.put_below in
    let t = put.new.self in
    on_ok_weaker put.result
    (at_work_below g.N.Naming.program c.args.shared.now.tree.now s.pass t.pass s.found t.found c.args.branch s.stack.items t.stack.items s.left
    t.left c.requires.works c.requires.served put.ensures.same.1 put.ensures.same.2)
    put.ensures.put
