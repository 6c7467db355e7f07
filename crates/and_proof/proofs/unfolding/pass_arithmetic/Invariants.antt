use Rattle.std.proofs.Common.{ℕ, List, length}
use Rattle.and_proof.specs.Unfolding.{IsUnfolding}
use Rattle.and_proof.proofs.unfolding.pass_arithmetic.Given as goal

abbrev pub invariant-goals : goal.invariant-goals
invariant-goals g l = (cs : List ℕ) → IsUnfolding g.N.Naming.program l.cells l.initial.goals cs → IsUnfolding g.N.Naming.program l.cells l.goals cs

abbrev pub decreases-goals : goal.decreases-goals
decreases-goals g l = length l.goals.ahead.items
