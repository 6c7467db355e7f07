use Rattle.std.proofs.Common.{length}
use Rattle.and_proof.specs.Rounds.{KeepsWhole}
use Rattle.and_proof.specs.Stacks.{in_order, NoneBehind}
use Rattle.and_proof.proofs.waiting.run_arithmetic.Given as goal

abbrev pub invariant-rounds : goal.invariant-rounds
invariant-rounds g l = record {
  whole : KeepsWhole g.N.Naming.program l.initial.cells l.cells l.initial.waiting l.waiting;
  start : NoneBehind l.way l.waiting;
}

abbrev pub decreases-rounds : goal.decreases-rounds
decreases-rounds g l = length (in_order l.waiting)
