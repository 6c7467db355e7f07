use Rattle.std.proofs.Common.{length}
use Rattle.and_proof.specs.Stacks.{goals_before}
use Rattle.and_proof.proofs.Rounds.{RoundSoFar}
use Rattle.and_proof.proofs.waiting.go_round.Given as goal

abbrev pub invariant-goals : goal.invariant-goals
invariant-goals g l = RoundSoFar g.N.Naming.program l.initial.cells l.cells l.initial.waiting l.waiting l.way l.round

abbrev pub decreases-goals : goal.decreases-goals
decreases-goals g l = length (goals_before l.way l.waiting)
