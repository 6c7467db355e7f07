use Rattle.std.proofs.Common.{◌≡◌, take}
use Rattle.and_clauses.proofs.known.are_same.Given as goal

abbrev pub invariant-loop-place : goal.invariant-loop-place
invariant-loop-place l = take l.place l.one ≡ take l.place l.other
