use Rattle.and_tasks.proofs.Ready.{at_work_by}
use Rattle.and_tasks.proofs.team.Team.go_by.Goals as goal

pub invariant_of-self : goal.invariant_of-self
invariant_of-self g c = record { number_is = c.args.self.now.number_is; left_shares = tt }

pub put_by-requires : goal.put_by-requires
put_by-requires g c = c.in-Ok.ensures.at_work.shares

pub returns-in-Ok-clause-at_work : goal.returns-in-Ok-clause-at_work
returns-in-Ok-clause-at_work g c =
    let t = c.go_in_hand.new.self in
    let u = c.put_by.new.self in
    let same = c.put_by.ensures.same in
    at_work_by g.N.Naming.program c.args.shared.now.tree.now t.pass t.found u.pass u.found t.stack u.stack c.go_in_hand.new.hand u.left same.1 same.2
    same.3 c.put_by.ensures.left c.in-Ok.ensures.at_work

pub returns-in-Ok-clause-has : goal.returns-in-Ok-clause-has
returns-in-Ok-clause-has g c = (returns-in-Ok-clause-at_work g c).works.has
