use Rattle.std.proofs.Common.{ℕ, ◌<◌}
use Rattle.and_program.specs.Loaded.{skeleton_of}
use Rattle.and_program.specs.Shown.{argument_of}
use Rattle.and_program.specs.Skeletons.{node_term}
use Rattle.and_row_check.specs.Places.{AreBelow}
use Rattle.and_row_check.proofs.looking.Spans.most.Given as goal

abbrev pub invariant-loop-place : goal.invariant-loop-place
invariant-loop-place l = (k : ℕ) → k < l.place → AreBelow l.most (argument_of (node_term (skeleton_of l.loaded).nodes l.node.0) k)
