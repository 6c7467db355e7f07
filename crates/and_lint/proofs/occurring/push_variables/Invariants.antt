use Rattle.std.proofs.Common.{◌≡◌, ◌++◌, ◌∷◌, [], length}
use Rattle.std.specs.List.{flat_map}
use Rattle.and_program.specs.Loaded.{skeleton_of}
use Rattle.and_program.specs.Skeletons.{node_term}
use Rattle.and_lint.specs.Bodies.{number_here, numbers_in}
use Rattle.and_lint.specs.Kept.{AreThere, ahead}
use Rattle.and_lint.proofs.occurring.push_variables.Given as goal

abbrev pub invariant-loop-left : goal.invariant-loop-left
invariant-loop-left l =
    let ss = (skeleton_of l.loaded).nodes in
    AreThere (length ss) l.left.items
    × (l.variables.items ++ flat_map number_here (ahead ss l.left.items)
    ≡ l.initial.variables.items ++ numbers_in (node_term ss l.fn.node.0 ∷ []))

abbrev pub decreases-loop-left : goal.decreases-loop-left
decreases-loop-left l = length (ahead (skeleton_of l.loaded).nodes l.left.items)
