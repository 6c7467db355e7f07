use Rattle.std.proofs.Common.{take}
use Rattle.and_proof.specs.Unfolding.{IsUnfolding}
use Rattle.and_proof.proofs.unfolding.unfold.Given as goal

abbrev pub invariant-places : goal.invariant-places
invariant-places g l = IsUnfolding g.N.Naming.program l.cells l.goals (take l.place l.code)
