use Rattle.std.proofs.Common.{◌≡◌, [], length, map}
use Rattle.std.specs.List.{flat_map}
use Rattle.and_model.specs.Terms.{variables_of}
use Rattle.and_model.specs.Lines.{first_seen}
use Rattle.and_program.specs.Loaded.{skeleton_of}
use Rattle.and_program.specs.Skeletons.{node_term}
use Rattle.and_lint.specs.Kept.{AreThere, ahead, unframed, variable_here}
use Rattle.and_lint.proofs.names.variables_in_order.Given as goal

abbrev pub invariant-loop-left : goal.invariant-loop-left
invariant-loop-left l =
    let ss = (skeleton_of l.loaded).nodes in
    AreThere (length ss) l.left.items
    × (first_seen (map unframed l.seen.items) (flat_map variable_here (ahead ss l.left.items))
    ≡ first_seen [] (variables_of (node_term ss l.fn.node.0)))

abbrev pub decreases-loop-left : goal.decreases-loop-left
decreases-loop-left l = length (ahead (skeleton_of l.loaded).nodes l.left.items)
