use Rattle.std.proofs.Common.{ℕ, arith, ◌∙◌, ap}
use Rattle.crossbeam_queue.specs.Passes.{view}
use Rattle.and_shares.specs.declared.share.Share.{Share}
use Rattle.and_batch.proofs.Moves.{takes, learns}
use Rattle.and_batch.proofs.Taking.{due_more, due_none, none_left, took_begun, took_one}
use Rattle.and_batch.proofs.working.work.Goals as goal

pub pop_as-requires-clause-rule : goal.pop_as-requires-clause-rule
pop_as-requires-clause-rule g c =
    let parts = ap (λ (s : Share ℕ). s.parts) c.working.invariant.took in
    (takes _ _ (omega (arith, c.requires.part)), learns _ _)

pub working-init : goal.working-init
working-init g c = record {
  pass = c.requires.pass;
  took = took_begun (view c.args.pass) c.new-dones.result.items c.new-dones.ensures.items;
  due = due_none (g.T.Trade.due c.args.trade.now) c.new-dones.result.items c.new-dones.ensures.items;
  fit = c.requires.fit;
}

pub working-preserved : goal.working-preserved
working-preserved g c =
    let i = c.working.invariant in
    let queue = c.pop_as.ensures.queue in
    let (done, more, number, due) = c.in_ok-tools-in-Some-pop_as.ensures.noted in
    record {
      pass = (queue.0 ∙ i.pass.0, queue.2 ∙ i.pass.1);
      took = took_one (view c.args.pass) (view c.working.pass) (view c.pop_as.new.pass) c.working.dones.items c.do_next.new.dones.items
          done c.in-Some-pop_as.number i.took c.in-Some-pop_as.ensures.rule number more;
      due = due_more (g.T.Trade.due c.args.trade.now) c.working.dones.items c.do_next.new.dones.items done i.due due more;
      fit = c.in_ok-tools-in-Some-pop_as.ensures.fit;
    }

pub returns-in-None-pop_as-clause-none_left : goal.returns-in-None-pop_as-clause-none_left
returns-in-None-pop_as-clause-none_left g c =
    let rule = c.in-None-pop_as.ensures.rule in
    none_left (view c.working.pass) (view c.pop_as.new.pass) rule.0 rule.1

pub returns-in-None-pop_as-clause-took : goal.returns-in-None-pop_as-clause-took
returns-in-None-pop_as-clause-took g c = c.in-None-pop_as.ensures.rule.0 ∙ c.working.invariant.took
