use Rattle.and_proof.proofs.PartedBytes.{NoneBefore}
use Rattle.and_proof.proofs.reading.parted.Given as goal

abbrev pub invariant-loop-place : goal.invariant-loop-place
invariant-loop-place l = NoneBefore l.bytes l.at l.place
