use Rattle.std.proofs.Common.{◌≡◌, length}
use Rattle.std.specs.List.{list_any}
use Rattle.and_program.specs.Loaded.{skeleton_of}
use Rattle.and_program.specs.Skeletons.{node_term}
use Rattle.and_lint.specs.Kept.{AreThere, ahead}
use Rattle.and_lint.specs.Subterms.{is_leaf, subterms}
use Rattle.and_lint.proofs.operators.has_leaf.Given as goal

abbrev pub invariant-loop-left : goal.invariant-loop-left
invariant-loop-left l =
    let ss = (skeleton_of l.loaded).nodes in
    AreThere (length ss) l.left.items
    × (list_any is_leaf (ahead ss l.left.items) ≡ list_any is_leaf (subterms (node_term ss l.fn.node.0)))

abbrev pub decreases-loop-left : goal.decreases-loop-left
decreases-loop-left l = length (ahead (skeleton_of l.loaded).nodes l.left.items)
