use Rattle.crossbeam_queue.specs.Passes.{view, IsPassOf}
use Rattle.and_batch.specs.Working.{AreDue, TookThese}
use Rattle.and_batch.proofs.working.work.Given as goal

abbrev pub invariant-working : goal.invariant-working
invariant-working g l = record {
  pass : IsPassOf l.numbers l.pass;
  took : TookThese (view l.fn.pass) (view l.pass) l.dones.items;
  due : AreDue (g.T.Trade.due l.trade) l.dones.items;
  fit : g.T.Trade.fit l.trade l.tools;
}
