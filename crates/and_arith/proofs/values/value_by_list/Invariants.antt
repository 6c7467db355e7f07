use Rattle.std.proofs.Common.{List, reverse}
use Rattle.and_model.specs.Store.{Setting}
use Rattle.and_cells.specs.Rows.{plain}
use Rattle.and_arith.proofs.Standing.{Stands}
use Rattle.and_arith.proofs.Counting.{weight}
use Rattle.and_arith.proofs.values.value_by_list.Given as goal

abbrev pub invariant-loop-value : goal.invariant-loop-value
invariant-loop-value g l = record {
  settings : List Setting;
  stands : Stands g.N.Naming.program (plain l.fn.cells) l.fn.expression settings (plain l.cells) (reverse l.work.tasks.items)
      (reverse l.work.values.items) l.work.taken;
}

abbrev pub decreases-loop-value : goal.decreases-loop-value
decreases-loop-value g l = weight g.N.Naming.program l.work.taken (reverse l.work.tasks.items)
