use Rattle.std.proofs.Common.{◌≡◌, take}
use Rattle.and_model.specs.declared.reference.Ref.TheVariants.{Node}
use Rattle.and_cells.specs.Parts.{named, parts_of}
use Rattle.and_circles.specs.Walks.{Opens}
use Rattle.and_circles.proofs.walk.Walk.open_node.Given as goal

abbrev pub invariant-loop-place : goal.invariant-loop-place
invariant-loop-place l =
    Opens (Node l.node l.base) (take l.place (parts_of (named l.loaded) (Node l.node l.base))) l.fn.self l.self
    × (l.self.marks ≡ l.fn.self.marks) × (l.self.structures ≡ l.fn.self.structures)
