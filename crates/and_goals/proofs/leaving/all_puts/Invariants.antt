use Rattle.std.proofs.Common.{◌≡◌, length, take}
use Rattle.and_goals.specs.Hands.{all_put}
use Rattle.and_goals.proofs.leaving.all_puts.Given as goal

abbrev pub invariant-loop-place : goal.invariant-loop-place
invariant-loop-place l = l.count ≡ length (all_put (take l.place l.hands))
