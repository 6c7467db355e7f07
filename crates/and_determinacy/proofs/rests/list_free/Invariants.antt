use Rattle.std.proofs.Common.{take}
use Rattle.and_program.specs.Loaded.{arguments_at, skeleton_of}
use Rattle.and_cells.specs.Parts.{named}
use Rattle.and_determinacy.specs.Watching.{AreFreeArguments}
use Rattle.and_determinacy.proofs.rests.list_free.Given as goal

abbrev pub invariant-loop-place : goal.invariant-loop-place
invariant-loop-place g l = AreFreeArguments (named l.loaded) l.cells l.base (take l.place (arguments_at (skeleton_of l.loaded) l.node.0)) l.out.items
