use Rattle.std.proofs.Common.{◌≡◌, length, take, drop}
use Rattle.and_goals.specs.Hands.{AllGiveNone}
use Rattle.and_goals.proofs.hand.take_of.Given as goal

abbrev pub invariant-loop-place : goal.invariant-loop-place
invariant-loop-place l = record {
  len : length l.others ≡ length l.fn.others;
  none : AllGiveNone (take l.place l.fn.others) (take l.place l.others);
  same : drop l.place l.others ≡ drop l.place l.fn.others;
}
