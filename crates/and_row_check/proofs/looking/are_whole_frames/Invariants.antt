use Rattle.std.proofs.Common.{All, take}
use Rattle.and_program.specs.Loaded.{program_of}
use Rattle.and_row_check.specs.Places.{IsWholeFrame}
use Rattle.and_row_check.proofs.looking.are_whole_frames.Given as goal

abbrev pub invariant-loop-frame : goal.invariant-loop-frame
invariant-loop-frame l = All (IsWholeFrame (program_of l.loaded) l.cells) (take l.frame-index l.frames)
