use Rattle.std.proofs.Common.{◌≡◌, ◌++◌, drop}
use Rattle.std.specs.List.{flat_map}
use Rattle.and_program.specs.Loaded.{skeleton_of}
use Rattle.and_program.specs.Skeletons.{node_term}
use Rattle.and_lint.specs.Bodies.{variable_for}
use Rattle.and_lint.proofs.occurring.push_arguments.Given as goal

abbrev pub invariant-loop-place : goal.invariant-loop-place
invariant-loop-place l =
    let f = variable_for (node_term (skeleton_of l.loaded).nodes l.goal.0) in
    l.variables.items ++ flat_map f (drop l.place-index l.places) ≡ l.initial.variables.items ++ flat_map f l.places
