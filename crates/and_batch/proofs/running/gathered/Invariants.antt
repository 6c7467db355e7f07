use Rattle.std.proofs.Common.{◌≡◌, ◌+◌, ◌≤◌, length, All}
use Rattle.crossbeam_queue.specs.Passes.{view, IsPassOf}
use Rattle.and_batch.specs.Dones.{numbers_of}
use Rattle.and_batch.specs.Working.{AreDue, IsWorked}
use Rattle.and_batch.proofs.running.gathered.Given as goal

abbrev pub invariant-loop-worked : goal.invariant-loop-worked
invariant-loop-worked g l = record {
  pass : IsPassOf l.numbers l.whole;
  parts : (view l.whole).parts + length l.all.items ≡ 9;
  few : length l.all.items ≤ 8;
  put : (view l.whole).put ≡ (view l.fn.led.pass).put;
  taken : (view l.whole).taken ≡ numbers_of l.dones.items;
  due : AreDue (g.T.Trade.due l._trade) l.dones.items;
  each : All (IsWorked l.numbers (g.T.Trade.due l._trade)) l.all.items;
}

abbrev pub decreases-loop-worked : goal.decreases-loop-worked
decreases-loop-worked g l = length l.all.items
