use Rattle.std.proofs.Common.{sym, subst}
use Rattle.std.specs.Prelude.{Ok}
use Rattle.std.proofs.lemmas.List.Elements.{All-contains}
use Rattle.and_model.specs.declared.reference.Ref.{Ref}
use Rattle.and_model.specs.declared.reference.Ref.TheVariants.{Node, Number}
use Rattle.and_cells.specs.Ranges.{NamedProgram}
use Rattle.and_cells.specs.Parts.{parts_of}
use Rattle.and_cells.specs.Ends.{Ends}
use Rattle.and_circles.specs.Walks.{Goes, Opens}
use Rattle.and_circles.specs.declared.explorer.Explored.TheVariants as explored
use Rattle.and_circles.specs.declared.walk.Visit.TheVariants.{Enter}
use Rattle.and_circles.proofs.Turning.{goes_past, goes_inside}
use Rattle.and_circles.proofs.walk.Walk.enter.Goals as goal

pub returns-then-is_below-clause-goes : goal.returns-then-is_below-clause-goes
returns-then-is_below-clause-goes g c =
    goes_past g.N.Naming.program c.args.cells.now c.args.at c.args.self.now (λ root taking. Ends.low c.args.at (c.is_below.ensures.0 c.if-is_below.true))

pub returns-in_ok-open_node-in-Node-clause-goes : goal.returns-in_ok-open_node-in-Node-clause-goes
returns-in_ok-open_node-in-Node-clause-goes g c =
    let P = g.N.Naming.program in
    let at = Node c.in-Node.node c.in-Node.base in
    let opened = subst (λ (Q : NamedProgram). Opens at (parts_of Q at) c.args.self.now c.open_node.new.self) (sym c.requires.program)
    c.in_ok-open_node-in-Node.ensures.opens in
    subst (λ (r : Ref). Goes P c.args.cells.now (Enter r) c.args.self.now c.open_node.new.self (Ok explored.Ends)) (sym c.in-Node.is)
    (goes_inside P c.args.cells.now c.in-Node.node c.in-Node.base c.args.self.now c.open_node.new.self opened c.open_node.ensures.marks)

pub returns-in-Number-clause-goes : goal.returns-in-Number-clause-goes
returns-in-Number-clause-goes g c =
    let P = g.N.Naming.program in
    subst (λ (r : Ref). Goes P c.args.cells.now (Enter r) c.args.self.now c.args.self.now (Ok explored.Ends)) (sym c.in-Number.is)
    (goes_past P c.args.cells.now (Number c.in-Number.field-0) c.args.self.now (λ root taking. Ends.number c.in-Number.field-0))

pub returns-then-has-clause-goes : goal.returns-then-has-clause-goes
returns-then-has-clause-goes g c =
    let P = g.N.Naming.program in
    let w = c.args.self.now in
    let at = Node c.in-Node.node c.in-Node.base in
    let ends = All-contains (Ends P c.args.cells.now w.floor w.halves) w.structures at c.requires.ended (c.has.ensures c.if-has.true) in
    subst (λ (r : Ref). Goes P c.args.cells.now (Enter r) w w (Ok explored.Ends)) (sym c.in-Node.is) (goes_past P c.args.cells.now at w (λ root taking. ends))
