use Rattle.std.proofs.Common.{sym, subst, length, false}
use Rattle.and_model.specs.declared.reference.Ref.{Ref}
use Rattle.and_model.specs.declared.reference.Ref.TheVariants.{Cell, Node}
use Rattle.and_cells.specs.Ranges.{IsInRange}
use Rattle.and_cells.specs.Ends.{Ends}
use Rattle.and_circles.specs.Following.{LeadsOn, step_beyond}
use Rattle.and_circles.specs.declared.following.Step.{Step}
use Rattle.and_circles.proofs.Sufficing.{puts_nothing, leads_beyond}
use Rattle.and_circles.proofs.following.follow.Goals as goal

pub returns-in-Cell : goal.returns-in-Cell
returns-in-Cell g c =
    let P = g.N.Naming.program in
    let row = c.args.cells.now in
    puts_nothing P row c.args.floor (Ends P row c.args.floor false c.args.at) c.args.visits.now.items
    (subst (Ends P row c.args.floor false) (sym c.in-Cell.is) (Ends.low (Cell c.in-Cell.cell) c.if-cell-floor.true))

pub returns-in-Cell-2 : goal.returns-in-Cell-2
returns-in-Cell-2 g c =
    let P = g.N.Naming.program in
    let row = c.args.cells.now in
    let items = c.args.visits.now.items in
    let below = subst (IsInRange P (length row)) c.in-Cell-2.is c.requires.in_range in
    subst (λ (s : Step). LeadsOn P row c.args.floor c.args.at items items s) (sym c.beyond.ensures)
    (subst (λ (r : Ref). LeadsOn P row c.args.floor r items items (step_beyond c.word.result)) (sym c.in-Cell-2.is)
    (leads_beyond P row c.args.floor c.requires.falls c.word.ensures.sound c.in-Cell-2.cell c.word.result items below (sym c.word.ensures.value)))

pub returns-in-Node : goal.returns-in-Node
returns-in-Node g c =
    let P = g.N.Naming.program in
    let row = c.args.cells.now in
    puts_nothing P row c.args.floor (Ends P row c.args.floor false c.args.at) c.args.visits.now.items
    (subst (Ends P row c.args.floor false) (sym c.in-Node.is) (Ends.low (Node c.in-Node.node c.in-Node.base) c.if-base-floor.true))

pub returns-in-Number : goal.returns-in-Number
returns-in-Number g c =
    let P = g.N.Naming.program in
    let row = c.args.cells.now in
    puts_nothing P row c.args.floor (Ends P row c.args.floor false c.args.at) c.args.visits.now.items
    (subst (Ends P row c.args.floor false) (sym c.in-Number.is) (Ends.number c.in-Number.field-0))
