use Rattle.std.specs.Prelude.{◌≡◌, ◌++◌, drop}
use Rattle.and_unify.specs.Running.{Runs, arguments_of_both}
use Rattle.and_unify.proofs.DescentRuns.{HasShape, waits}
use Rattle.and_unify.proofs.descending.meet_arguments.Given as goal

abbrev pub invariant-loop-place : goal.invariant-loop-place
invariant-loop-place g l = record {
  over : g.C.Cells.over l.cells ≡ g.C.Cells.over l.fn.cells;
  grew : g.C.Cells.Grew l.fn.cells l.cells;
  shape : HasShape g.C.Cells.program (g.C.Cells.seen l.fn.cells).words l.next;
  runs : Runs g.C.Cells.program (g.C.Cells.seen l.fn.cells) (arguments_of_both g.C.Cells.program l.fn.both ++ l.fn.list) l.fn.bound.items
      (g.C.Cells.seen l.cells)
      (drop l.place (arguments_of_both g.C.Cells.program l.fn.both) ++ (waits g.C.Cells.program l.next ++ l.list)) l.bound.items;
}
