use Rattle.and_clause_index.specs.Sieves.{AreEmpty}
use Rattle.and_clause_index.proofs.sieve.empty_rows.Given as goal

abbrev pub invariant-loop-mark : goal.invariant-loop-mark
invariant-loop-mark l = AreEmpty l._mark l.rows.items
