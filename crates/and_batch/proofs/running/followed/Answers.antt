use Rattle.std.proofs.Common.{ℕ, arith, ap, subst}
use Rattle.crossbeam_queue.specs.Passes.{view}
use Rattle.and_batch.specs.Working.{TookThese}
use Rattle.and_shares.specs.declared.share.Share.{Share}
use Rattle.and_batch.proofs.Taking.{took_nothing, due_none}
use Rattle.and_batch.proofs.running.followed.Goals as goal

pub work-requires-clause-part : goal.work-requires-clause-part
work-requires-clause-part g c = let parts = ap (λ (s : Share ℕ). s.parts) c.requires.pass.1 in omega (arith, parts)

pub returns-then-not-wait : goal.returns-then-not-wait
returns-then-not-wait g c =
    let none = c.new.ensures.items in
    (c.requires.pass.0, took_nothing (view c.args.pass) _ c.requires.pass.1 none, due_none (g.T.Trade.due c.args.trade.now) _ none)

pub returns : goal.returns
returns g c =
    let w = c.in_ok-worked.ensures in
    (w.pass, subst (λ v. TookThese v (view c.in_ok-worked.worked.pass) c.in_ok-worked.worked.dones.items) c.requires.pass.1 w.took, w.due)
