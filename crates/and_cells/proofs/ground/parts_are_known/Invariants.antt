use Rattle.std.proofs.Common.{take}
use Rattle.std.specs.Prelude.{All}
use Rattle.and_model.specs.declared.reference.Ref.TheVariants.{Node}
use Rattle.and_cells.specs.Parts.{named, parts_of}
use Rattle.and_cells.specs.Ground.{IsEndOrAmong}
use Rattle.and_cells.proofs.ground.parts_are_known.Given as goal

abbrev pub invariant-loop-place : goal.invariant-loop-place
invariant-loop-place l = All (IsEndOrAmong (named l.loaded) l.known) (take l.place (parts_of (named l.loaded) (Node l.node l.base)))
