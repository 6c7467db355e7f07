use Rattle.std.proofs.Common.{suc, length}
use Rattle.and_goals.specs.Hands.{AreFresh}
use Rattle.and_goals.proofs.Rounds.{Between}
use Rattle.and_goals.proofs.opening.deal_round.Given as goal

abbrev pub invariant-loop-place : goal.invariant-loop-place
invariant-loop-place l = record {
  between : Between (length l.initial.hands) l.further (suc l.further) l.further l.place l.hands;
  fresh : AreFresh l.hands;
}
