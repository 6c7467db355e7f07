use Rattle.std.proofs.Common.{◌≢◌, sym}
use Rattle.and_model.specs.declared.reference.Ref.TheVariants.{Free, Cell, Node}
use Rattle.and_cells.specs.Ends
use Rattle.and_circles.proofs.Resting.{done_ends, structure_ends}
use Rattle.and_circles.proofs.walk.Walk.passes_cell.Goals as goal

pub returns-then-is_done-clause-ends : goal.returns-then-is_done-clause-ends
returns-then-is_done-clause-ends g c = λ _.
    done_ends g.N.Naming.program c.args.cells.now c.args.self.now c.requires.rested.finished c.args.cell (c.is_done.ensures c.if-is_done.true)

pub returns-in-Free-clause-ends : goal.returns-in-Free-clause-ends
returns-in-Free-clause-ends g c = λ _. Ends.free c.args.cell (sym c.in-Free.ensures.value)

pub note-requires-clause-ends : goal.note-requires-clause-ends
note-requires-clause-ends g c = λ is.
    let set : Cell c.in-Cell.other ≢ Free = λ e. cc in
    Ends.set c.args.cell (Cell c.in-Cell.other) (sym c.in-Cell.ensures.value, set)
    (done_ends g.N.Naming.program c.args.cells.now c.args.self.now c.requires.rested.finished c.in-Cell.other (c.is_done-other_ends.ensures is))

pub note-requires-in-Node-clause-ends : goal.note-requires-in-Node-clause-ends
note-requires-in-Node-clause-ends g c = λ is.
    let set : Node c.in-Node.node c.in-Node.base ≢ Free = λ e. cc in
    Ends.set c.args.cell (Node c.in-Node.node c.in-Node.base) (sym c.in-Node.ensures.value, set)
    (structure_ends g.N.Naming.program c.args.cells.now c.args.self.now c.requires.rested.finished (Node c.in-Node.node c.in-Node.base)
    (c.has-structure_ends.ensures is))
