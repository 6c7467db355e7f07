use Rattle.std.proofs.Common.{refl, sym, ◌∙◌}
use Rattle.and_model.specs.declared.reference.Ref.TheVariants.{Cell}
use Rattle.and_arith.proofs.Telling.{free_told}
use Rattle.and_arith.proofs.glancing.told_by_cell.Goals as goal

pub returns-in-Free : goal.returns-in-Free
returns-in-Free g c = free_told g.N.Naming.program c.args.cells.now c.args.cell (Cell c.args.cell) refl (sym c.word.ensures.value ∙ c.in-Free.is)
