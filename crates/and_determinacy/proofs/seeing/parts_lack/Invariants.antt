use Rattle.std.proofs.Common.{take}
use Rattle.and_program.specs.Loaded.{arguments_at, skeleton_of}
use Rattle.and_determinacy.specs.Seeing.{AreLacking}
use Rattle.and_determinacy.proofs.seeing.parts_lack.Given as goal

abbrev pub invariant-loop-place : goal.invariant-loop-place
invariant-loop-place g l = AreLacking g.N.Naming.program l.cells l.fn.held.items l.held.items l.fn.given.items l.given.items
    (take l.place (arguments_at (skeleton_of l.loaded) l.asked.0))
