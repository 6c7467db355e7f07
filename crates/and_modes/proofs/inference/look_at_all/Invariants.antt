use Rattle.and_program.specs.Loaded.{program_of}
use Rattle.and_modes.specs.Kept.{assignment_of}
use Rattle.and_modes.specs.Looked.{StaysAbove, FellOr}
use Rattle.and_modes.proofs.Looking.{WellModedBelow}
use Rattle.and_modes.proofs.inference.look_at_all.Given as goal

abbrev pub invariant-loop-number : goal.invariant-loop-number
invariant-loop-number l =
    let P = program_of l.loaded in
    StaysAbove P (assignment_of l.initial.modes) (assignment_of l.modes)
    × FellOr l.fell (assignment_of l.initial.modes) (assignment_of l.modes) (WellModedBelow P (assignment_of l.modes) l.number)
