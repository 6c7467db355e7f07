use Rattle.std.proofs.Common.{◌≤◌, ◌≡◌, ◌++◌, length, drop, reverse}
use Rattle.and_grammar.specs.Copies.{are_terms}
use Rattle.and_grammar.proofs.copying.push_terms.Given as goal

abbrev pub invariant-loop-left : goal.invariant-loop-left
invariant-loop-left l = record {
  few : l.left ≤ length l.places;
  same : reverse l.pending.items ≡ are_terms (drop l.left l.places) ++ reverse l.fn.pending.items;
}

abbrev pub decreases-loop-left : goal.decreases-loop-left
decreases-loop-left l = l.left
