use Rattle.std.proofs.Common.{◌≡◌, ◌++◌, take}
use Rattle.and_gathering.proofs.gathering.add_pairs.Given as goal

abbrev pub invariant-loop-place : goal.invariant-loop-place
invariant-loop-place l = l.all ≡ l.initial.all ++ take l.place l.pairs
