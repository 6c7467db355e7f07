use Rattle.std.proofs.Common.{◌≡◌, ◌+◌}
use Rattle.and_cells.proofs.References.{cells_behind}
use Rattle.and_unify.proofs.MeetingSteps.{Standing}
use Rattle.and_unify.proofs.meeting.meet.Given as goal

abbrev pub invariant-loop-met : goal.invariant-loop-met
invariant-loop-met g l = record {
  over : g.C.Cells.over l.cells ≡ g.C.Cells.over l.fn.cells;
  grew : g.C.Cells.Grew l.fn.cells l.cells;
  standing : Standing g.C.Cells.program l.fn.left l.fn.right (g.C.Cells.seen l.fn.cells) (g.C.Cells.seen l.cells) l.one l.other;
}

abbrev pub decreases-loop-met : goal.decreases-loop-met
decreases-loop-met g l = cells_behind l.one + cells_behind l.other
