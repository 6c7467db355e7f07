use Rattle.std.proofs.Common.{◌≡◌, [], replicate}
use Rattle.and_tree.proofs.places.empty_hands.Given as goal

abbrev pub invariant-loop-team : goal.invariant-loop-team
invariant-loop-team l = l.hands.items ≡ replicate l._team []
