use Rattle.and_program.specs.Loaded.{program_of}
use Rattle.and_modes.specs.Kept.{assignment_of}
use Rattle.and_modes.specs.Known.{environment}
use Rattle.and_modes.proofs.Along.{Along}
use Rattle.and_modes.proofs.inference.look_along.Given as goal

abbrev pub invariant-loop-item : goal.invariant-loop-item
invariant-loop-item l =
    Along (program_of l.loaded) l.fn.no.0 (assignment_of l.fn.modes) (assignment_of l.modes)
    (environment l.known.levels) l.fell l.item-index
