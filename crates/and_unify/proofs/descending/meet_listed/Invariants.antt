use Rattle.std.specs.Prelude.{◌≡◌, length}
use Rattle.and_unify.specs.Running.{Runs}
use Rattle.and_unify.proofs.descending.meet_listed.Given as goal

abbrev pub invariant-loop-pair : goal.invariant-loop-pair
invariant-loop-pair g l = record {
  over : g.C.Cells.over l.cells ≡ g.C.Cells.over l.fn.cells;
  grew : g.C.Cells.Grew l.fn.cells l.cells;
  runs : Runs g.C.Cells.program (g.C.Cells.seen l.fn.cells) l.fn.list l.fn.bound.items (g.C.Cells.seen l.cells) l.list l.bound.items;
}

abbrev pub decreases-loop-pair : goal.decreases-loop-pair
decreases-loop-pair g l = length l.list
