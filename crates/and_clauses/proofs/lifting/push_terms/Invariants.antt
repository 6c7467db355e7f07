use Rattle.std.proofs.Common.{◌≡◌, ◌≤◌, ◌++◌, drop, reverse, length, map}
use Rattle.and_clauses.specs.Copied.{term}
use Rattle.and_clauses.specs.Copies.{tasks_in}
use Rattle.and_clauses.proofs.lifting.push_terms.Given as goal

abbrev pub invariant-loop-left : goal.invariant-loop-left
invariant-loop-left l = record {
  within : l.left ≤ length l.arguments;
  pushed : tasks_in (reverse l.pending.items) ≡ map term (drop l.left l.arguments) ++ tasks_in (reverse l.initial.pending.items);
}

abbrev pub decreases-loop-left : goal.decreases-loop-left
decreases-loop-left l = l.left
