use Rattle.std.proofs.Common.{◌≡◌, ◌<◌, ◌-◌, length}
use Rattle.and_clause_index.specs.Served.{NodeHas}
use Rattle.and_determinacy.specs.Searches.{NoneFrom}
use Rattle.and_determinacy.proofs.judging.narrow_from.Given as goal

abbrev pub invariant-clauses : goal.invariant-clauses
invariant-clauses g l = record {
  same : l.cells ≡ l.fn.cells;
  look : l.trials.look ≡ l.fn.trials.look;
  there : l.last < length l.clauses;
  before : NoneFrom (NodeHas g.N.Naming.program l.fn.cells l.node.0 l.goal.base) l.clauses 0 l.last;
}

abbrev pub decreases-clauses : goal.decreases-clauses
decreases-clauses g l = length l.clauses - l.last
