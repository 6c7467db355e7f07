use Rattle.std.proofs.Common.{sym, subst}
use Rattle.and_store.specs.Passes.{StoreId}
use Rattle.and_workers.specs.Running.{HasNumber}
use Rattle.and_workers.proofs.Values.{number_later}
use Rattle.and_workers.proofs.running.Reducer+StoreCells+N.look_at_comparison.Goals as goal

pub compared-requires-clause-decided : goal.compared-requires-clause-decided
compared-requires-clause-decided g c κs within =
    let P = g.N.Naming.program in
    let p = c.value_of-first.new.cells.pass in
    let q = c.value_of-second.new.cells.pass in
    let o = c.outcome.ensures.made c.in-Made.holds c.in-Made.is in
    let since = c.value_of-second.ensures.since in
    let one = number_later P p.store.about.first p.pass.seen since.0 c.args.goal.base c.args.left.0 o.0 (c.value_of-first.ensures.number o.0 o.2) in
    record {
      one = o.0;
      other = o.1;
      one_is = subst (λ (s : StoreId). HasNumber P s.about.first q.pass.seen c.args.goal.base c.args.left.0 o.0) (sym c.value_of-second.ensures.store)
          (subst (λ j. HasNumber P p.store.about.first j c.args.goal.base c.args.left.0 o.0) (sym since.1) one);
      other_is = c.value_of-second.ensures.number o.1 o.3;
      decides = o.4;
    }
