use Rattle.std.proofs.Common.{◌≡◌, take}
use Rattle.and_clause_index.specs.Served.{NodeHas}
use Rattle.and_clause_index.specs.Looks.{IsLook}
use Rattle.and_determinacy.proofs.Picking.{Picks}
use Rattle.and_determinacy.proofs.judging.pick.Given as goal

abbrev pub invariant-loop-clause : goal.invariant-loop-clause
invariant-loop-clause g l = record {
  same : l.cells ≡ l.fn.cells;
  look : IsLook g.N.Naming.program l.fn.cells l.node.0 l.goal.base l.trials.look;
  picks : Picks (NodeHas g.N.Naming.program l.fn.cells l.node.0 l.goal.base) (take l.clause-index l.clauses) l.out;
}
