use Rattle.std.proofs.Common.{◌≡◌, ◌+◌, ◌∙◌, suc, arith, w64}
use Rattle.std.proofs.lemmas.Int.{to_z-of_z}
use Rattle.and_cells.proofs.Chains.{reads_more}
use Rattle.and_overlay.proofs.Numbers.{written_read, pair_read}
use Rattle.and_overlay.proofs.overlay.OverlayCells.number.Goals as goal

pub written_word-low-requires-clause-written : goal.written_word-low-requires-clause-written
written_word-low-requires-clause-written g c = written_read _ _ c.args.pair c.written_word-high.ensures.only_reads c.requires.written

pub returns-clause-grew : goal.returns-clause-grew
returns-clause-grew g c = record {
  cells_name = c.written_word-low.ensures.grew.cells_name ∙ c.written_word-high.ensures.grew.cells_name;
  scratch_name = c.written_word-low.ensures.grew.scratch_name ∙ c.written_word-high.ensures.grew.scratch_name;
  below = c.written_word-low.ensures.grew.below ∙ c.written_word-high.ensures.grew.below;
  frame = c.written_word-low.ensures.grew.frame ∙ c.written_word-high.ensures.grew.frame;
  over = c.written_word-low.ensures.grew.over ∙ c.written_word-high.ensures.grew.over;
  grew = g.met.C.Cells.grew_on c.args.self.now.cells.now c.written_word-high.new.self.cells.now c.written_word-low.new.self.cells.now
      c.written_word-high.ensures.grew.grew c.written_word-low.ensures.grew.grew;
  only_reads = reads_more _ _ _ c.written_word-high.ensures.grew.only_reads c.written_word-low.ensures.grew.only_reads;
  room = (
    c.written_word-low.ensures.grew.room.0 ∙ c.written_word-high.ensures.grew.room.0,
    c.written_word-low.ensures.grew.room.1
        ∙ c.written_word-high.ensures.grew.room.1,
  );
}

pub returns-clause-only_reads : goal.returns-clause-only_reads
returns-clause-only_reads g c = reads_more _ _ _ c.written_word-high.ensures.only_reads c.written_word-low.ensures.only_reads

pub returns-clause-read : goal.returns-clause-read
returns-clause-read g c =
    let next : c.args.pair + 1 ≡ suc c.args.pair = omega arith in
    pair_read g.C.Cells.program _ _ _ c.args.pair (c.args.pair + 1) c.written_word-high.result c.written_word-low.result _ next
    c.written_word-high.ensures.only_reads c.written_word-low.ensures.only_reads c.written_word-high.ensures.known
    c.written_word-low.ensures.known
    c.written_word-high.ensures.fits c.written_word-low.ensures.fits c.written_word-high.ensures.only c.written_word-low.ensures.only
    (to_z-of_z w64 c.joined.result (record { sfits = c.joined.type_inv }) ∙ c.joined.ensures)
