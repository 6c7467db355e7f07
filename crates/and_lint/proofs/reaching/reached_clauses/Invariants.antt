use Rattle.std.proofs.Common.{◌+◌, length}
use Rattle.and_program.specs.Loaded.{program_of}
use Rattle.and_lint.specs.Marked.{Marks, unmarked}
use Rattle.and_lint.proofs.reaching.reached_clauses.Given as goal

abbrev pub invariant-loop-no : goal.invariant-loop-no
invariant-loop-no l = Marks (program_of l.loaded) l.reached.marks.items l.reached.work.items

abbrev pub decreases-loop-no : goal.decreases-loop-no
decreases-loop-no l = unmarked l.reached.marks.items + length l.reached.work.items
