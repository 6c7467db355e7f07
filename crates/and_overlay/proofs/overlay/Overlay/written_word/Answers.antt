use Rattle.std.proofs.Common.{◌∙◌}
use Rattle.and_cells.proofs.Chains.{reads_more}
use Rattle.and_overlay.proofs.Numbers.{written_read}
use Rattle.and_overlay.proofs.overlay.Overlay.written_word.Goals as goal

pub word_below-requires-clause-written : goal.word_below-requires-clause-written
word_below-requires-clause-written g c = written_read _ _ c.args.pair c.look.ensures.only_reads c.requires.written

pub returns-in-Free-clause-grew : goal.returns-in-Free-clause-grew
returns-in-Free-clause-grew g c = record {
  cells_name = c.word_below.ensures.grew.cells_name ∙ c.look.ensures.grew.cells_name;
  scratch_name = c.word_below.ensures.grew.scratch_name ∙ c.look.ensures.grew.scratch_name;
  below = c.word_below.ensures.grew.below ∙ c.look.ensures.grew.below;
  frame = c.word_below.ensures.grew.frame ∙ c.look.ensures.grew.frame;
  over = c.word_below.ensures.grew.over ∙ c.look.ensures.grew.over;
  grew = g.met.C.Cells.grew_on c.args.self.now.cells.now c.look.new.self.cells.now c.word_below.new.self.cells.now
      c.look.ensures.grew.grew c.word_below.ensures.grew.grew;
  only_reads = reads_more _ _ _ c.look.ensures.grew.only_reads c.word_below.ensures.grew.only_reads;
  room = (c.word_below.ensures.grew.room.0 ∙ c.look.ensures.grew.room.0, c.word_below.ensures.grew.room.1 ∙ c.look.ensures.grew.room.1);
}

pub returns-in-Free-clause-only_reads : goal.returns-in-Free-clause-only_reads
returns-in-Free-clause-only_reads g c = reads_more _ _ _ c.look.ensures.only_reads c.word_below.ensures.only_reads
