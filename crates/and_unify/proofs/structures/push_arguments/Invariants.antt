use Rattle.std.proofs.Common.{◌≡◌, ◌++◌, take}
use Rattle.and_cells.specs.Parts.{named, parts_of}
use Rattle.and_unify.specs.Turns.{pairs_of}
use Rattle.and_unify.proofs.structures.push_arguments.Given as goal

abbrev pub invariant-loop-place : goal.invariant-loop-place
invariant-loop-place l =
    l.list ≡ l.initial.list ++ pairs_of (take l.place (parts_of (named l.fn.loaded) l.fn.left)) (take l.place (parts_of (named l.fn.loaded) l.fn.right))
