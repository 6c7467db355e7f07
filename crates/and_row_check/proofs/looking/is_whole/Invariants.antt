use Rattle.and_cells.specs.Parts.{named}
use Rattle.and_program.specs.Loaded.{skeleton_of}
use Rattle.and_row_check.specs.Places.{AreSpans}
use Rattle.and_row_check.proofs.Wholeness.{Looked}
use Rattle.and_row_check.proofs.looking.is_whole.Given as goal

abbrev pub invariant-loop-place : goal.invariant-loop-place
invariant-loop-place l = record {
  spans : AreSpans (skeleton_of l.loaded).nodes l.spans.spans.items;
  looked : Looked (named l.loaded) l.frames l.cells l.place;
}
