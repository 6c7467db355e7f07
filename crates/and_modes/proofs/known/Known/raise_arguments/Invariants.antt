use Rattle.std.proofs.Common.{◌≡◌}
use Rattle.and_program.specs.Loaded.{skeleton_of}
use Rattle.and_program.specs.Skeletons.{node_term}
use Rattle.and_modes.specs.Modes.{all_raised, levels_of, arguments_of}
use Rattle.and_modes.specs.Kept.{assignment_of}
use Rattle.and_modes.specs.Known.{environment}
use Rattle.and_modes.proofs.Walking.{from_place}
use Rattle.and_modes.proofs.known.Known.raise_arguments.Given as goal

abbrev pub invariant-loop-place : goal.invariant-loop-place
invariant-loop-place l =
    let term = node_term (skeleton_of l.loaded).nodes l.goal.0 in
    let levels = levels_of (assignment_of l.modes) term l.side in
    all_raised (environment l.initial.self.levels) levels 0 (arguments_of term)
    ≡ all_raised (environment l.self.levels) levels l.place (from_place l.place (arguments_of term))
