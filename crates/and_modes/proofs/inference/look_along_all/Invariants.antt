use Rattle.and_program.specs.Loaded.{program_of}
use Rattle.and_modes.specs.Kept.{assignment_of}
use Rattle.and_modes.specs.Looked.{StaysAbove, FellOr}
use Rattle.and_modes.proofs.inference.look_along_all.Given as goal

abbrev pub invariant-loop-no : goal.invariant-loop-no
invariant-loop-no l =
    StaysAbove (program_of l.loaded) (assignment_of l.initial.modes) (assignment_of l.modes)
    × FellOr l.fell (assignment_of l.initial.modes) (assignment_of l.modes) (Unit {0})
