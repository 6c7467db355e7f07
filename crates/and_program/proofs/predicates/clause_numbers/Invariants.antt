use Rattle.std.proofs.Common.{◌≡◌, ◌+◌, ◌++◌, drop, map}
use Rattle.and_program.specs.Predicates.{numbers_at, numbers_from}
use Rattle.and_program.specs.Nodes.{shape_of, entry_clause}
use Rattle.and_program.specs.declared.predicates.Predicate.{Predicate}
use Rattle.and_program.proofs.predicates.clause_numbers.Given as goal

abbrev pub invariant-loop-place : goal.invariant-loop-place
invariant-loop-place l =
    (p : Predicate) → numbers_at l.found p ++ numbers_from p (l.place + 1) (map (entry_clause (map shape_of l.nodes)) (drop l.place l.clauses))
    ≡ numbers_from p 1 (map (entry_clause (map shape_of l.nodes)) l.clauses)
