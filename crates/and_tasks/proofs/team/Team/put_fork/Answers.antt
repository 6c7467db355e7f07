use Rattle.std.proofs.Common.{Some, ap, refl}
use Rattle.std.proofs.lemmas.Result.{on_ok_weaker}
use Rattle.and_answers.specs.Kept.{listed}
use Rattle.and_tasks.specs.declared.stack.Task.TheVariants.{Children}
use Rattle.and_tasks.proofs.Ready.{fork_at_work, shares_still}
use Rattle.and_tasks.proofs.Sharing.{has_either}
use Rattle.and_tasks.proofs.team.Team.put_fork.Goals as goal

pub put-requires-clause-has : goal.put-requires-clause-has
put-requires-clause-has g c κs within = (c.args.self.now.stack.items, c.requires.works.has)

pub returns-clause-has : goal.returns-clause-has
returns-clause-has g c =
    let s = c.args.self.now in
    let put = c.put in
    has_either g.N.Naming.program c.args.shared.now.tree.now put.result s.pass put.new.self.pass (Children c.args.level) s.stack.items
    put.new.self.stack.items c.requires.works.has put.ensures.put put.ensures.given_up

pub returns-clause-at_work : goal.returns-clause-at_work
returns-clause-at_work g c =
    let s = c.args.self.now in
    let t = c.put.new.self in
    let h = c.args.hand.now in
    on_ok_weaker c.put.result
    (λ put. record {
      at_work = fork_at_work g.N.Naming.program c.args.shared.now.tree.now s.pass s.found t.pass t.found c.args.level (Some h.branch) (Some h.branch)
          s.stack.items t.stack.items c.requires.works c.requires.left c.requires.served c.put.ensures.same.1 refl put;
      shares = shares_still s.found t.found h.common h.branch.key (ap listed c.put.ensures.same.1) c.requires.shares;
    })
    c.put.ensures.put
