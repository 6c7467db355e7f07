use Rattle.std.proofs.Common.{◌≡◌, ◌+◌, length}
use Rattle.and_unify.specs.Turns.{stand, weight}
use Rattle.and_unify.proofs.TurnStands.{Stands}
use Rattle.and_unify.proofs.unifying.solve.Given as goal

abbrev pub invariant-loop-unified : goal.invariant-loop-unified
invariant-loop-unified g l = record {
  over : g.C.Cells.over l.cells ≡ g.C.Cells.over l.initial.cells;
  grew : g.C.Cells.Grew l.initial.cells l.cells;
  stands : Stands g.C.Cells.program (g.C.Cells.seen l.initial.cells) l.initial.pairs l.initial.fuel l.initial.bound.items
      (stand (g.C.Cells.seen l.cells) l.pairs l.work l.fuel) l.bound.items;
}

abbrev pub decreases-loop-unified : goal.decreases-loop-unified
decreases-loop-unified g l = weight l.work.classes l.pairs + length l.work.rights
