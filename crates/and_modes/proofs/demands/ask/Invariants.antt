use Rattle.std.proofs.Common.{◌≡◌, ◌++◌}
use Rattle.and_program.specs.Loaded.{skeleton_of}
use Rattle.and_program.specs.Skeletons.{node_term}
use Rattle.and_modes.specs.Modes.{name_of, count_of, arguments_of}
use Rattle.and_modes.specs.Asked.{asked_by, asked_of}
use Rattle.and_modes.specs.Known.{environment}
use Rattle.and_modes.proofs.Walking.{from_place}
use Rattle.and_modes.proofs.demands.ask.Given as goal

abbrev pub invariant-loop-number : goal.invariant-loop-number
invariant-loop-number l =
    let term = node_term (skeleton_of l.loaded).nodes l.goal.0 in
    let e = environment l.known.levels in
    l.initial.demands.items ++ asked_of e l.side term
    ≡ l.demands.items ++ asked_by e (name_of term) (count_of (arguments_of term)) l.side l.number (from_place l.number (arguments_of term))
