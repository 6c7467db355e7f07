use Rattle.std.proofs.Common.{◌≡◌}
use Rattle.and_program.specs.Loaded.{program_of}
use Rattle.and_modes.specs.Modes.{before_item}
use Rattle.and_modes.specs.Kept.{assignment_of}
use Rattle.and_modes.specs.Known.{environment}
use Rattle.and_modes.proofs.Firsts.{NoneBefore}
use Rattle.and_modes.proofs.waiting.in_clause.Given as goal

abbrev pub invariant-loop-node : goal.invariant-loop-node
invariant-loop-node l =
    (environment l.known.levels ≡ before_item (program_of l.loaded) (assignment_of l.modes) l.no.0 l.node-index)
    × (l.item ≡ l.node-index)
    × NoneBefore (program_of l.loaded) (assignment_of l.modes) l.no.0 l.node-index
