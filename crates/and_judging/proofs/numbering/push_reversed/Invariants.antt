use Rattle.std.proofs.Common.{◌≡◌, ◌≤◌, ◌++◌, drop, reverse, length}
use Rattle.and_judging.proofs.numbering.push_reversed.Given as goal

abbrev pub invariant-loop-left : goal.invariant-loop-left
invariant-loop-left l = record {
  within : l.left ≤ length l.numbers;
  pushed : reverse l.pending.items ≡ drop l.left l.numbers ++ reverse l.initial.pending.items;
}

abbrev pub decreases-loop-left : goal.decreases-loop-left
decreases-loop-left l = l.left
