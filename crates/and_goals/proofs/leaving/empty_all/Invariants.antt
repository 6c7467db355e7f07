use Rattle.std.proofs.Common.{◌≡◌, length, drop, vec_capacity}
use Rattle.and_goals.proofs.Sums.{Emptied}
use Rattle.and_goals.proofs.leaving.empty_all.Given as goal

abbrev pub invariant-loop-place : goal.invariant-loop-place
invariant-loop-place l = record {
  len : length l.hands ≡ length l.initial.hands;
  same : drop l.place l.hands ≡ drop l.place l.initial.hands;
  capacity : vec_capacity l.goals ≡ vec_capacity l.initial.goals;
  emptied : Emptied l.initial.hands l.place l.initial.goals.items l.goals.items;
}
