use Rattle.std.proofs.Common.{◌≡◌, ◌-◌, length}
use Rattle.and_shares.specs.Bags.{SameBag}
use Rattle.and_goals.specs.Hands.{IsDealt, all_put, all_taken}
use Rattle.and_goals.proofs.leaving.gather.Given as goal

abbrev pub invariant-loop-done : goal.invariant-loop-done
invariant-loop-done l = record {
  len : length l.hands ≡ length l.initial.hands;
  dealt : IsDealt (l.rounds - l.done) l.hands;
  put : all_put l.hands ≡ all_put l.initial.hands;
  taken : SameBag (all_taken l.hands) (all_taken l.initial.hands);
}
