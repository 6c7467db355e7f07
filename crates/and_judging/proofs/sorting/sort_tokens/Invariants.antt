use Rattle.std.proofs.Common.{◌≡◌, List, length, drop}
use Rattle.and_model.specs.Lines.{Bytes}
use Rattle.and_judging.specs.Marks.{marks_in}
use Rattle.and_judging.specs.Sorted.{begun, steps}
use Rattle.and_judging.specs.Sorts.{shapes_under, locals_in, sorting_in, AreFew, AreOutlinesThere}
use Rattle.and_judging.proofs.sorting.sort_tokens.Given as goal

abbrev pub invariant-loop-token : goal.invariant-loop-token
invariant-loop-token l = record {
  sorted : (names : List Bytes) → let ss = shapes_under names l.parts in
      steps (sorting_in ss l.sorting) (marks_in ss (drop l.token-index l.tokens)) ≡ steps begun (marks_in ss l.tokens);
  there : AreOutlinesThere (length l.parts) l.sorting.sorted.outlines.items;
  few : AreFew l.token-index (locals_in l.sorting.sorted.disjunctions.items);
}
