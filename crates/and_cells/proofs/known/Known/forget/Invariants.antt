use Rattle.std.proofs.Common.{ℕ, take}
use Rattle.std.specs.Prelude.{All, Contains}
use Rattle.and_model.specs.declared.reference.Ref.TheVariants.{Cell}
use Rattle.and_cells.specs.Ground.{IsCut}
use Rattle.and_cells.proofs.known.Known.forget.Given as goal

abbrev pub invariant-loop-cell : goal.invariant-loop-cell
invariant-loop-cell l = IsCut l.fn.self l.self × All (λ (cell : ℕ). Contains l.self (Cell cell) → ⊥) (take l.cell-index l.cells)
