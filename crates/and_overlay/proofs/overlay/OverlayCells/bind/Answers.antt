use Rattle.std.proofs.Common.{◌∙◌}
use Rattle.and_cells.proofs.Chains.{reads_more, reads_keeps, sets_keeps, keeps_more}
use Rattle.and_overlay.proofs.Numbers.{number_read}
use Rattle.and_overlay.proofs.overlay.OverlayCells.bind.Goals as goal

pub keep-requires-clause-written : goal.keep-requires-clause-written
keep-requires-clause-written g c = number_read _ _ c.args.to c.look.ensures.only_reads c.requires.written

pub returns-in-Free-clause-grew : goal.returns-in-Free-clause-grew
returns-in-Free-clause-grew g c = record {
  cells_name = c.keep.ensures.grew.cells_name ∙ c.look.ensures.grew.cells_name;
  scratch_name = c.keep.ensures.grew.scratch_name ∙ c.look.ensures.grew.scratch_name;
  below = c.keep.ensures.grew.below ∙ c.look.ensures.grew.below;
  frame = c.keep.ensures.grew.frame ∙ c.look.ensures.grew.frame;
  over = c.keep.ensures.grew.over ∙ c.look.ensures.grew.over;
  grew = g.met.C.Cells.grew_on c.args.self.now.cells.now c.look.new.self.cells.now c.keep.new.self.cells.now c.look.ensures.grew.grew
      c.keep.ensures.grew.grew;
  only_reads = reads_more _ _ _ c.look.ensures.grew.only_reads c.keep.ensures.grew.only_reads;
  room = (c.keep.ensures.grew.room.0 ∙ c.look.ensures.grew.room.0, c.keep.ensures.grew.room.1 ∙ c.look.ensures.grew.room.1);
}

pub returns-in-Free-clause-keeps : goal.returns-in-Free-clause-keeps
returns-in-Free-clause-keeps g c = keeps_more _ _ _ (reads_keeps _ _ c.look.ensures.only_reads)
    (sets_keeps c.args.cell c.args.to _ _ c.keep.ensures.sets)
