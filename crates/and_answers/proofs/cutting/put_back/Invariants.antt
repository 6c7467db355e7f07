use Rattle.std.proofs.Common.{◌≡◌, ◌++◌, length, reverse}
use Rattle.and_answers.specs.Runs.{entries_of}
use Rattle.and_answers.proofs.cutting.put_back.Given as goal

abbrev pub invariant-putting : goal.invariant-putting
invariant-putting l =
    l.entries.items ++ entries_of (reverse l.tails.items) ≡ l.fn.entries.items ++ entries_of (reverse l.initial.tails.items)

abbrev pub decreases-putting : goal.decreases-putting
decreases-putting l = length l.tails.items
