use Rattle.and_clause_index.specs.Looks.{IsLeft}
use Rattle.and_determinacy.specs.Searches.{NoneFrom}
use Rattle.and_determinacy.proofs.judging.next_left.Given as goal

abbrev pub invariant-loop-place : goal.invariant-loop-place
invariant-loop-place l = NoneFrom (IsLeft l.table l.look) l.clauses l.from l.place
