use Rattle.std.proofs.Common.{◌≤◌, ◌<◌, ◌+◌, ◌*◌, ◌++◌, length}
use Rattle.std.specs.List.Sorted.{IsPermutation}
use Rattle.and_answers.specs.Merged.{all_entries}
use Rattle.and_answers.proofs.merging.halved.Given as goal

abbrev pub invariant-loop-run : goal.invariant-loop-run
invariant-loop-run l = record {
  same : IsPermutation (all_entries l.fn.runs.items) (all_entries l.fewer.items ++ all_entries l.runs.items);
  some_left : 0 < length l.runs.items → 2 * length l.fewer.items + length l.runs.items ≤ length l.fn.runs.items;
  half : 2 * length l.fewer.items + length l.runs.items ≤ length l.fn.runs.items + 1;
}

abbrev pub decreases-loop-run : goal.decreases-loop-run
decreases-loop-run l = length l.runs.items
