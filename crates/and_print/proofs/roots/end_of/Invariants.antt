use Rattle.std.proofs.Common.{length}
use Rattle.and_model.specs.Terms.{Term}
use Rattle.and_cells.specs.Ranges.{IsInRangeOrHalf}
use Rattle.and_cells.specs.Meaning.{StandsFor}
use Rattle.and_cells.proofs.References.{cells_behind}
use Rattle.and_print.proofs.roots.end_of.Given as goal

abbrev pub invariant-loop-at : goal.invariant-loop-at
invariant-loop-at g l = record {
  in_range : IsInRangeOrHalf g.N.Naming.program (length l.cells) l.at;
  stands : (t : Term) → StandsFor g.N.Naming.program l.cells l.fn.from t → StandsFor g.N.Naming.program l.cells l.at t;
}

abbrev pub decreases-loop-at : goal.decreases-loop-at
decreases-loop-at g l = cells_behind l.at
