use Rattle.std.proofs.Common.{◌∙◌, ◌∷◌, List, None, sym, subst, arith}
use Rattle.std.proofs.lemmas.List.{nil_from_length}
use Rattle.and_branch.specs.Making.{noted_from}
use Rattle.and_tasks.specs.Working.{AreServed, Has}
use Rattle.and_tasks.specs.declared.stack.Task.{Task}
use Rattle.and_tasks.specs.declared.stack.Task.TheVariants.{One}
use Rattle.and_tasks.proofs.Ready.{own_works}
use Rattle.and_tasks.proofs.team.Team.own_row.Goals as goal

pub returns-then-len-eq0-clause-served : goal.returns-then-len-eq0-clause-served
returns-then-len-eq0-clause-served g c =
    let stack = c.args.self.now.stack in
    let none = nil_from_length stack.items (omega (arith, stack.ok.0, c.len.ensures, c.if-len-eq0.true)) in
    subst (λ (ts : List (Task g.row.N.Denot)). AreServed None ts) (sym none) tt

pub give_up_key-requires-clause-has : goal.give_up_key-requires-clause-has
give_up_key-requires-clause-has g c κs within = (c.args.hand.branch, c.of-key.ensures ∙ c.key.ensures, c.requires.ready.works.has)

pub returns-in-Ok-push-clause-works : goal.returns-in-Ok-push-clause-works
returns-in-Ok-push-clause-works g c =
    let s = c.args.self.now in
    (own_works g.N.Naming.program c.args.shared.now.tree.now s.pass s.found c.args.hand c.in-Ok.own (noted_from c.args.hand.branch.row) s.stack.items
    c.push.new.self.items c.requires.ready c.in-Ok.ensures c.in-Ok-push.ensures.items).0

pub returns-in-Ok-push-clause-served : goal.returns-in-Ok-push-clause-served
returns-in-Ok-push-clause-served g c =
    let s = c.args.self.now in
    (own_works g.N.Naming.program c.args.shared.now.tree.now s.pass s.found c.args.hand c.in-Ok.own (noted_from c.args.hand.branch.row) s.stack.items
    c.push.new.self.items c.requires.ready c.in-Ok.ensures c.in-Ok-push.ensures.items).1

pub give_up_key-requires-in-Err-clause-has : goal.give_up_key-requires-in-Err-clause-has
give_up_key-requires-in-Err-clause-has g c κs within =
    let b = c.args.hand.branch in (
      b,
      c.of-key.ensures ∙ c.key.ensures,
      subst (λ (ts : List (Task g.row.N.Denot)). Has g.N.Naming.program c.args.shared.now.tree.now c.args.self.now.pass (One b ∷ ts))
          (sym c.in-Err.ensures.items) c.requires.ready.works.has,
    )
