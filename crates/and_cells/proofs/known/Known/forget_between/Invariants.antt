use Rattle.std.proofs.Common.{ℕ, ◌<◌, ◌≤◌}
use Rattle.std.specs.Prelude.{Contains}
use Rattle.and_model.specs.declared.reference.Ref.TheVariants.{Cell}
use Rattle.and_cells.specs.Ground.{IsCut}
use Rattle.and_cells.proofs.known.Known.forget_between.Given as goal

abbrev pub invariant-loop-cell : goal.invariant-loop-cell
invariant-loop-cell l = IsCut l.fn.self l.self × ((k : ℕ) → l.first ≤ k → k < l.cell → Contains l.self (Cell k) → ⊥)
