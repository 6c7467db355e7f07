use Rattle.std.proofs.Common.{length}
use Rattle.std.specs.List.Sorted.{IsPermutation}
use Rattle.and_answers.specs.Merged.{all_entries}
use Rattle.and_answers.proofs.merging.as_one.Given as goal

abbrev pub invariant-joining : goal.invariant-joining
invariant-joining l = IsPermutation (all_entries l.fn.runs.items) (all_entries l.ahead.items)

abbrev pub decreases-joining : goal.decreases-joining
decreases-joining l = length l.ahead.items
