use Rattle.std.proofs.Common.{◌+◌, length}
use Rattle.and_answers.proofs.MergeLemmas.{AreTakenOff}
use Rattle.and_answers.proofs.merging.merged.Given as goal

abbrev pub invariant-loop-tails : goal.invariant-loop-tails
invariant-loop-tails l = AreTakenOff l.fn.run l.fn.other l.tails.items l.one.items l.other.items

abbrev pub decreases-loop-tails : goal.decreases-loop-tails
decreases-loop-tails l = length l.one.items + length l.other.items
