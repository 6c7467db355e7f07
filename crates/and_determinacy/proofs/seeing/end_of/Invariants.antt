use Rattle.and_cells.specs.Ranges.{IsInRangeOrHalf}
use Rattle.and_cells.specs.Rows.{plain}
use Rattle.and_cells.specs.Seen.{LeadsTo}
use Rattle.and_cells.proofs.References.{cells_behind}
use Rattle.std.specs.Prelude.{length}
use Rattle.and_determinacy.proofs.seeing.end_of.Given as goal

abbrev pub invariant-loop-at : goal.invariant-loop-at
invariant-loop-at g l = record {
  leads : LeadsTo (plain l.cells) l.fn.from l.at;
  in_range : IsInRangeOrHalf g.N.Naming.program (length l.cells) l.at;
}

abbrev pub decreases-loop-at : goal.decreases-loop-at
decreases-loop-at g l = cells_behind l.at
