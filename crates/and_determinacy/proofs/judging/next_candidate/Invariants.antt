use Rattle.std.proofs.Common.{◌≡◌}
use Rattle.and_clause_index.specs.Served.{NodeHas}
use Rattle.and_determinacy.specs.Searches.{NoneFrom}
use Rattle.and_determinacy.proofs.judging.next_candidate.Given as goal

abbrev pub invariant-loop-place : goal.invariant-loop-place
invariant-loop-place g l = record {
  same : l.cells ≡ l.fn.cells;
  look : l.trials.look ≡ l.fn.trials.look;
  rests : l.trials.rests ≡ l.fn.trials.rests;
  none : NoneFrom (NodeHas g.N.Naming.program l.fn.cells l.node.0 l.base) l.clauses l.from l.place;
}
