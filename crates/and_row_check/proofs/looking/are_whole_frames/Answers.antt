use Rattle.and_program.specs.Loaded.{program_of}
use Rattle.and_row_check.specs.Places.{IsWholeFrame}
use Rattle.and_row_check.proofs.Loops.{all_next, all_done}
use Rattle.and_row_check.proofs.looking.are_whole_frames.Goals as goal

pub loop-frame-preserved : goal.loop-frame-preserved
loop-frame-preserved c =
    all_next (IsWholeFrame (program_of c.args.loaded.now) c.args.cells.now) c.args.frames.now c.loop-frame.frame-index _ c.loop-frame.invariant
    c.loop-frame-test.true (c.is_whole_frame.ensures c.if-not-is_whole_frame.false)

pub returns : goal.returns
returns c = λ _.
    all_done (IsWholeFrame (program_of c.args.loaded.now) c.args.cells.now) c.args.frames.now c.loop-frame.frame-index c.loop-frame.invariant
    c.loop-frame-test.false
