use Rattle.std.proofs.Common.{refl, sym, subst}
use Rattle.std.specs.Prelude.{Ok}
use Rattle.and_model.specs.declared.reference.Ref.{Ref}
use Rattle.and_model.specs.declared.reference.Ref.TheVariants.{Node}
use Rattle.and_cells.specs.Ends.{Ends}
use Rattle.and_circles.specs.Walks.{Goes}
use Rattle.and_circles.specs.declared.explorer.Explored.TheVariants as explored
use Rattle.and_circles.specs.declared.walk.Visit.TheVariants.{Leave}
use Rattle.and_circles.specs.declared.walk.Walk.{Walk}
use Rattle.and_circles.proofs.Keeping.{added}
use Rattle.and_circles.proofs.Turning.{cell_back, none_back}
use Rattle.and_circles.proofs.walk.Walk.leave.Goals as goal

pub returns-in-Cell-clause-goes : goal.returns-in-Cell-clause-goes
returns-in-Cell-clause-goes g c =
    let P = g.N.Naming.program in
    let old : Walk = c.args.self.now in
    let new : Walk = record old { marks = c.set.new.self } in
    subst (λ (at : Ref). Goes P c.args.cells.now (Leave at) old new (Ok explored.Ends)) (sym c.in-Cell.is)
    (cell_back P c.args.cells.now c.in-Cell.cell old new c.set.ensures refl (refl, refl))

pub returns-in-Node-clause-goes : goal.returns-in-Node-clause-goes
returns-in-Node-clause-goes g c =
    let P = g.N.Naming.program in
    let old : Walk = c.args.self.now in
    let new : Walk = record old { structures = c.put.new.self } in
    subst (λ (at : Ref). Goes P c.args.cells.now (Leave at) old new (Ok explored.Ends)) (sym c.in-Node.is)
    (none_back P c.args.cells.now (Node c.in-Node.node c.in-Node.base) old c.put.new.self (λ cell e. cc))

pub returns-in-Node-clause-ended : goal.returns-in-Node-clause-ended
returns-in-Node-clause-ended g c =
    let w = c.args.self.now in
    let E : Ref → Type 0 = Ends g.N.Naming.program c.args.cells.now w.floor w.halves in
    added E (Node c.in-Node.node c.in-Node.base) w.structures c.put.new.self
    (subst E c.in-Node.is c.requires.taking.1.owes.0) c.put.ensures c.requires.ended
