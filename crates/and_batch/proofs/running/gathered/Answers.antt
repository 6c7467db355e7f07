use Rattle.std.proofs.Common.{ℕ, ◌∷◌, [], Some, length, length-append, ap, subst, ◌∙◌, arith}
use Rattle.std.proofs.lemmas.List.Elements.{All-pop}
use Rattle.crossbeam_queue.specs.Passes.{view}
use Rattle.and_shares.specs.declared.share.Share.{Share}
use Rattle.and_batch.specs.Working.{IsWorked}
use Rattle.and_batch.proofs.Taking.{due_joined, numbers_joined}
use Rattle.and_batch.proofs.running.gathered.Goals as goal

pub loop-worked-preserved : goal.loop-worked-preserved
loop-worked-preserved g c =
    let i = c.loop-worked.invariant in
    let due = g.T.Trade.due c.args._trade.now in
    let popped = All-pop (IsWorked c.args.numbers.now due) c.loop-worked.all.items c.pop.new.self.items (Some c.in-Some.worked)
    c.in-Some.ensures.items i.each in
    let worked = c.in_ok-worked.field-0 in
    let is = subst (IsWorked c.args.numbers.now due) c.in_ok-worked.was popped.1 in
    let took = c.take_in.ensures.took in
    let parts = ap (λ (s : Share ℕ). s.parts) took in
    let long = ap length c.in-Some.ensures.items ∙ length-append c.pop.new.self.items (c.in-Some.worked ∷ []) in
    let joined = c.in_ok-take_in.ensures.dones in record {
      pass = c.take_in.ensures.pass;
      parts = omega (arith, i.parts, parts, long);
      few = omega (arith, i.few, long);
      put = ap (λ (s : Share ℕ). s.put) took ∙ i.put;
      taken = numbers_joined c.loop-worked.dones.items worked.dones.items c.take_in.new.dones.items (view c.loop-worked.whole).taken
          (view c.take_in.new.whole).taken i.taken (ap (λ (s : Share ℕ). s.taken) took) joined;
      due = due_joined due c.loop-worked.dones.items worked.dones.items c.take_in.new.dones.items i.due is.2 joined;
      each = popped.0;
    }
