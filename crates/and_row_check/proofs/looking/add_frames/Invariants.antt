use Rattle.std.proofs.Common.{◌≡◌, ◌++◌, map, take}
use Rattle.and_row_check.specs.Places.{frame_of}
use Rattle.and_row_check.proofs.looking.add_frames.Given as goal

abbrev pub invariant-loop-place : goal.invariant-loop-place
invariant-loop-place l = l.frames.items ≡ l.initial.frames.items ++ map frame_of (take l.place l.reductions)
