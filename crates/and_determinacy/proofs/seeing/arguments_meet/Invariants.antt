use Rattle.std.proofs.Common.{take}
use Rattle.and_program.specs.Loaded.{arguments_at, skeleton_of}
use Rattle.and_determinacy.specs.Seeing.{Meets, argument_pairs}
use Rattle.and_determinacy.proofs.seeing.arguments_meet.Given as goal

abbrev pub invariant-loop-place : goal.invariant-loop-place
invariant-loop-place g l = Meets g.N.Naming.program l.cells l.fn.held.items l.held.items l.fn.given.items l.given.items
    (argument_pairs g.N.Naming.program l.base (take l.place (arguments_at (skeleton_of l.loaded) l.node.0))
    (take l.place (arguments_at (skeleton_of l.loaded) l.head.0)))
