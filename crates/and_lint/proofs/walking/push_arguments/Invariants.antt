use Rattle.std.proofs.Common.{◌≡◌, ◌≤◌, ◌++◌, drop, length}
use Rattle.and_program.specs.Loaded.{skeleton_of, arguments_at}
use Rattle.and_program.specs.Skeletons.{node_term}
use Rattle.and_lint.specs.Kept.{AreThere, arguments_of, terms_on}
use Rattle.and_lint.proofs.walking.push_arguments.Given as goal

abbrev pub invariant-loop-place : goal.invariant-loop-place
invariant-loop-place l =
    let ss = (skeleton_of l.loaded).nodes in
    (l.place ≤ length (arguments_at (skeleton_of l.loaded) l.node.0))
    × AreThere (length ss) l.stack.items
    × (terms_on ss l.stack.items ≡ drop l.place (arguments_of (node_term ss l.node.0)) ++ terms_on ss l.initial.stack.items)

abbrev pub decreases-loop-place : goal.decreases-loop-place
decreases-loop-place l = l.place
