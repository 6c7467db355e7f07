use Rattle.std.proofs.Common.{◌≡◌, suc, length}
use Rattle.and_shares.specs.Bags.{SameBag}
use Rattle.and_goals.specs.Hands.{all_put, all_taken}
use Rattle.and_goals.proofs.Rounds.{Between}
use Rattle.and_goals.proofs.leaving.gather_round.Given as goal

abbrev pub invariant-loop-place : goal.invariant-loop-place
invariant-loop-place l = record {
  between : Between (length l.initial.hands) l.further l.further (suc l.further) l.place l.hands;
  put : all_put l.hands ≡ all_put l.initial.hands;
  taken : SameBag (all_taken l.hands) (all_taken l.initial.hands);
}
