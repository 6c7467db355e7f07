use Rattle.std.proofs.Common.{◌≡◌, ◌≤◌, ◌++◌, drop}
use Rattle.std.specs.Prelude.{reverse}
use Rattle.and_program.specs.Loaded.{skeleton_of, arguments_at}
use Rattle.and_modes.specs.Walked.{numbers_of}
use Rattle.and_modes.proofs.variables.push_arguments.Given as goal

abbrev pub invariant-loop-place : goal.invariant-loop-place
invariant-loop-place l =
    (numbers_of l.stack.items ≡ numbers_of l.initial.stack.items ++ reverse (drop l.place (arguments_at (skeleton_of l.loaded) l.node.0)))
    × (l.place ≤ l.count)

abbrev pub decreases-loop-place : goal.decreases-loop-place
decreases-loop-place l = l.place
