use Rattle.and_program.specs.Loaded.{program_of}
use Rattle.and_modes.specs.Modes.{Assignment, WellModed}
use Rattle.and_modes.specs.Asked.{IsAtOrAbove}
use Rattle.and_modes.specs.Kept.{assignment_of}
use Rattle.and_modes.specs.Totals.{height}
use Rattle.and_modes.proofs.inference.infer.Given as goal

abbrev pub invariant-loop-modes : goal.invariant-loop-modes
invariant-loop-modes l = (other : Assignment) → WellModed (program_of l.loaded) other → IsAtOrAbove (assignment_of l.modes) other

abbrev pub decreases-loop-modes : goal.decreases-loop-modes
decreases-loop-modes l = height (assignment_of l.modes)
