use Rattle.std.proofs.Common.{take}
use Rattle.and_clause_index.specs.Sieves.{print_in}
use Rattle.and_clause_index.proofs.Sifting.{AreSifted}
use Rattle.and_clause_index.proofs.sieve.Sieve.at.Given as goal

abbrev pub invariant-loop-clause : goal.invariant-loop-clause
invariant-loop-clause l = AreSifted (print_in l.prints) l.place (take l.clause-index l.clauses) l.rows.items
