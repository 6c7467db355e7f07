use Rattle.std.proofs.Common.{◌+◌, ◌-◌, length}
use Rattle.and_program.specs.Loaded.{skeleton_of}
use Rattle.and_row_check.specs.Places.{AreSpans}
use Rattle.and_row_check.proofs.looking.Spans.of_node.Given as goal

abbrev pub invariant-loop-self : goal.invariant-loop-self
invariant-loop-self l = AreSpans (skeleton_of l.loaded).nodes l.self.spans.items

abbrev pub decreases-loop-self : goal.decreases-loop-self
decreases-loop-self l = (l.node.0 + 1) - length l.self.spans.items
