use Rattle.and_code.specs.Places.{IsPassed}
use Rattle.and_code.proofs.places.among.Given as goal

abbrev pub invariant-loop-place : goal.invariant-loop-place
invariant-loop-place l = IsPassed l.reductions l.node l.item l.from l.place
