use Rattle.std.specs.Prelude.{◌<◌, length}
use Rattle.and_model.specs.declared.reference.Ref.TheVariants.{Cell}
use Rattle.and_cells.specs.Rows.{plain}
use Rattle.and_cells.specs.Seen.{LeadsTo}
use Rattle.and_guards.proofs.known.number_in_cell.Given as goal

abbrev pub invariant-loop-next : goal.invariant-loop-next
invariant-loop-next g l = record {
  leads : LeadsTo (plain l.cells) (Cell l.fn.from) (Cell l.cell);
  in_range : l.cell < length l.cells;
}

abbrev pub decreases-loop-next : goal.decreases-loop-next
decreases-loop-next g l = l.cell
