use Rattle.std.proofs.Common.{◌≡◌, ◌++◌}
use Rattle.and_store.specs.Left.{left_numbers}
use Rattle.and_store.specs.Passes.{numbers_from}
use Rattle.and_store.proofs.leaving.push_unmarked.Given as goal

abbrev pub invariant-loop-i : goal.invariant-loop-i
invariant-loop-i l = l.left.items ≡ l.fn.left.items ++ left_numbers l.marks (numbers_from l.first l.i)
