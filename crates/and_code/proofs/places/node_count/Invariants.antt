use Rattle.std.proofs.Common.{ℕ, ◌≡◌, ◌<◌, Some}
use Rattle.std.specs.Prelude.{slice_get}
use Rattle.and_model.specs.declared.goal.Reduction.{Reduction}
use Rattle.and_code.proofs.places.node_count.Given as goal

abbrev pub invariant-loop-place : goal.invariant-loop-place
invariant-loop-place l = (k : ℕ) (r : Reduction) → k < l.place → slice_get l.reductions k ≡ Some r → r.parent < l.count
