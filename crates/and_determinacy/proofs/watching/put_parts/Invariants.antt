use Rattle.std.proofs.Common.{◌≤◌, length, map, take}
use Rattle.and_program.specs.Loaded.{arguments_at, skeleton_of}
use Rattle.and_cells.specs.Parts.{named, part_at}
use Rattle.and_determinacy.specs.Watching.{AreFollowed}
use Rattle.and_determinacy.proofs.watching.put_parts.Given as goal

abbrev pub invariant-loop-place : goal.invariant-loop-place
invariant-loop-place g l = record {
  low : l.begun ≤ length l.out.items;
  are : AreFollowed g.N.Naming.program l.cells l.floor l.begun
      (map (part_at (named l.loaded) l.base) (take l.place (arguments_at (skeleton_of l.loaded) l.node.0)))
      l.fn.visits.items l.visits.items l.fn.out.items l.out.items;
}
