use Rattle.std.proofs.Common.{map, take}
use Rattle.and_program.specs.Loaded.{arguments_at, skeleton_of}
use Rattle.and_cells.specs.Parts.{named, part_at}
use Rattle.and_determinacy.specs.Seeing.{HoldNone}
use Rattle.and_determinacy.proofs.seeing.parts_hold_none.Given as goal

abbrev pub invariant-loop-place : goal.invariant-loop-place
invariant-loop-place g l = HoldNone g.N.Naming.program l.cells l.fn.held.items l.held.items
    (map (part_at (named l.loaded) l.base) (take l.place (arguments_at (skeleton_of l.loaded) l.node.0)))
