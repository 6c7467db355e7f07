use Rattle.std.proofs.Common.{ap}
use Rattle.std.proofs.lemmas.Result.{on_ok_weaker}
use Rattle.and_answers.specs.Kept.{listed}
use Rattle.and_tasks.proofs.Ready.{shares_still}
use Rattle.and_tasks.proofs.Sharing.{works_looked}
use Rattle.and_tasks.proofs.team.Team.hand_on.Goals as goal

pub hand_on_oldest-requires-clause-at_work : goal.hand_on_oldest-requires-clause-at_work
hand_on_oldest-requires-clause-at_work g c κs within =
    let s = c.args.self.now in
    let w = c.requires.at_work.at_work in
    record {
      works = works_looked g.N.Naming.program c.args.shared.now.tree.now _ _ s.pass c.look.new.pass s.found s.stack.items w.works c.look.ensures;
      served = w.served;
    }

pub returns-then-ne-clause-at_work : goal.returns-then-ne-clause-at_work
returns-then-ne-clause-at_work g c =
    let s = c.args.self.now in
    let w = c.requires.at_work.at_work in
    record {
      at_work = record {
        works = works_looked g.N.Naming.program c.args.shared.now.tree.now _ _ s.pass c.look.new.pass s.found s.stack.items w.works c.look.ensures;
        served = w.served;
      };
      shares = c.requires.at_work.shares;
    }

pub returns-then-ne-clause-has : goal.returns-then-ne-clause-has
returns-then-ne-clause-has g c = (returns-then-ne-clause-at_work g c).at_work.works.has

pub returns-clause-at_work : goal.returns-clause-at_work
returns-clause-at_work g c =
    let t = c.hand_on_oldest.new.self in
    let h = c.args.hand.now in
    on_ok_weaker c.hand_on_oldest.result
    (λ w. record {
      at_work = w;
      shares = shares_still c.args.self.now.found t.found h.common h.branch.key (ap listed c.hand_on_oldest.ensures.same.1) c.requires.at_work.shares;
    })
    c.hand_on_oldest.ensures.at_work
