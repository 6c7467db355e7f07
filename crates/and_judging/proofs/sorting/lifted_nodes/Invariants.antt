use Rattle.std.proofs.Common.{◌≡◌, ◌+◌, ◌≤◌, drop}
use Rattle.and_judging.specs.Sorted.{locals_size}
use Rattle.and_judging.specs.Sorts.{locals_in}
use Rattle.and_judging.proofs.sorting.lifted_nodes.Given as goal

abbrev pub invariant-loop-disjunction : goal.invariant-loop-disjunction
invariant-loop-disjunction l = record {
  sum : l.nodes + locals_size (locals_in (drop l.disjunction-index l.disjunctions)) ≡ locals_size (locals_in l.disjunctions);
  few : l.nodes ≤ l.room;
}
