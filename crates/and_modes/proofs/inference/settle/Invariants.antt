use Rattle.std.proofs.Common.{◌≤◌}
use Rattle.and_program.specs.Loaded.{program_of}
use Rattle.and_modes.specs.Kept.{assignment_of}
use Rattle.and_modes.specs.Looked.{StaysAbove}
use Rattle.and_modes.specs.Totals.{height}
use Rattle.and_modes.proofs.inference.settle.Given as goal

abbrev pub invariant-loop : goal.invariant-loop
invariant-loop l =
    StaysAbove (program_of l.loaded) (assignment_of l.initial.modes) (assignment_of l.modes)
    × (height (assignment_of l.modes) ≤ height (assignment_of l.initial.modes))

abbrev pub decreases-loop : goal.decreases-loop
decreases-loop l = height (assignment_of l.modes)
