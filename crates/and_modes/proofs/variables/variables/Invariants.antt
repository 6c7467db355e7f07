use Rattle.std.specs.Prelude.{reverse}
use Rattle.and_model.specs.Terms.{variables_of}
use Rattle.and_program.specs.Loaded.{skeleton_of}
use Rattle.and_program.specs.Skeletons.{node_term}
use Rattle.and_modes.specs.Walked.{numbers_of, parts_at}
use Rattle.and_modes.proofs.Walking.{Walks}
use Rattle.and_modes.proofs.variables.variables.Given as goal

abbrev pub invariant-loop-next : goal.invariant-loop-next
invariant-loop-next l =
    let nodes = (skeleton_of l.loaded).nodes in
    Walks nodes l.found.items l.left.items (variables_of (node_term nodes l.fn.node.0))

abbrev pub decreases-loop-next : goal.decreases-loop-next
decreases-loop-next l = parts_at (skeleton_of l.loaded).nodes (reverse (numbers_of l.left.items))
