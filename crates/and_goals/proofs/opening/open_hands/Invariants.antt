use Rattle.std.proofs.Common.{◌≡◌, length}
use Rattle.and_goals.specs.Hands.{IsDealt, AreFresh}
use Rattle.and_goals.proofs.opening.open_hands.Given as goal

abbrev pub invariant-loop-further : goal.invariant-loop-further
invariant-loop-further l = record {
  len : length l.hands.items ≡ l.workers;
  dealt : IsDealt l.further l.hands.items;
  fresh : AreFresh l.hands.items;
}
