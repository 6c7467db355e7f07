use Rattle.and_tree.proofs.Placing.{IsBehind}
use Rattle.and_tree.proofs.hand.place_of.Given as goal

abbrev pub invariant-loop-place : goal.invariant-loop-place
invariant-loop-place l = IsBehind l.key l.hand l.place
