use Rattle.std.proofs.Common.{◌∙◌}
use Rattle.and_tasks.proofs.Sharing.{sees_none, works_counted}
use Rattle.and_teams.proofs.work.wait.Goals as goal

pub returns-then-left-eq0-clause-at_work : goal.returns-then-left-eq0-clause-at_work
returns-then-left-eq0-clause-at_work g c =
    let t = c.take_over.new.self in
    let w = c.in_ok-take_over.ensures.at_work in
    record {
      works = works_counted g.N.Naming.program c.args.shared.now.tree.now _ t.pass c.left.new.pass t.found t.stack.items w.works c.left.ensures;
      served = w.served;
    }

pub returns-then-left-eq0-clause-has : goal.returns-then-left-eq0-clause-has
returns-then-left-eq0-clause-has g c = (returns-then-left-eq0-clause-at_work g c).works.has

pub returns-then-left-eq0-clause-over : goal.returns-then-left-eq0-clause-over
returns-then-left-eq0-clause-over g c =
    λ is. sees_none c.take_over.new.self.pass c.left.new.pass c.left.result c.left.ensures c.if-left-eq0.true

pub waiting-preserved : goal.waiting-preserved
waiting-preserved g c =
    let t = c.take_over.new.self in
    let w = c.in_ok-take_over.ensures.at_work in (
      record {
        works = works_counted g.N.Naming.program c.args.shared.now.tree.now _ t.pass c.left.new.pass t.found t.stack.items w.works c.left.ensures;
        served = w.served;
      },
      c.take_over.ensures.same ∙ c.waiting.invariant.1,
    )
