use Rattle.std.proofs.Common.{◌≡◌, ◌-◌, [], length, All}
use Rattle.crossbeam_queue.specs.Passes.{view, IsPassOf}
use Rattle.and_shares.specs.Balance.{share}
use Rattle.and_batch.proofs.numbers.passes_of.Given as goal

abbrev pub invariant-loop : goal.invariant-loop
invariant-loop l = record {
  pass : IsPassOf l.numbers l.whole;
  rest : view l.whole ≡ share (9 - l.counter) (view l.initial.whole).put (view l.initial.whole).taken;
  len : length l.passes.items ≡ l.counter;
  fresh : All (λ p. IsPassOf l.numbers p × (view p ≡ share 1 [] [])) l.passes.items;
}
