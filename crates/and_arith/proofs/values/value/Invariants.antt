use Rattle.std.proofs.Common.{◌≡◌, List, reverse}
use Rattle.and_model.specs.Store.{Setting}
use Rattle.and_arith.proofs.Standing.{Stands}
use Rattle.and_arith.proofs.Concluding.{Paid}
use Rattle.and_arith.proofs.Counting.{weight}
use Rattle.and_arith.proofs.values.value.Given as goal

abbrev pub invariant-loop-value : goal.invariant-loop-value
invariant-loop-value g l = record {
  over : g.C.Cells.over l.cells ≡ g.C.Cells.over l.fn.cells;
  grew : g.C.Cells.Grew l.fn.cells l.cells;
  settings : List Setting;
  stands : Stands g.C.Cells.program (g.C.Cells.seen l.fn.cells) l.fn.expression settings (g.C.Cells.seen l.cells) (reverse l.work.tasks.items)
      (reverse l.work.values.items) l.work.taken;
  paid : Paid g.C.Cells.program l.fn.expression settings l.fn.fuel (reverse l.work.tasks.items) l.fuel;
}

abbrev pub decreases-loop-value : goal.decreases-loop-value
decreases-loop-value g l = weight g.C.Cells.program l.work.taken (reverse l.work.tasks.items)
