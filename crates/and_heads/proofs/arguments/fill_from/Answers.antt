use Rattle.std.proofs.Common.{length, refl, sym, subst, ◌∙◌}
use Rattle.and_model.specs.declared.reference.Ref.{Ref}
use Rattle.and_model.specs.declared.reference.Ref.TheVariants.{Cell, Node, Number}
use Rattle.and_cells.specs.Ranges.{CanHold}
use Rattle.and_cells.specs.Rows.{plain}
use Rattle.and_cells.specs.Seen.{IsSetTo}
use Rattle.and_cells.proofs.Chains.{written_since_known}
use Rattle.and_heads.proofs.Filling.{set_leads, filled, filled_as}
use Rattle.and_heads.proofs.arguments.fill_from.Goals as goal

pub is_below-requires : goal.is_below-requires
is_below-requires g c = c.requires.in_range.0

pub take_as-requires-clause-in_row : goal.take_as-requires-clause-in_row
take_as-requires-clause-in_row g c = (c.requires.in_range.1, c.requires.in_range.0)

pub take_as-requires-clause-below : goal.take_as-requires-clause-below
take_as-requires-clause-below g c = (c.args.floor, c.is_below.ensures.below c.if-is_below.true)

pub returns-then-is_below-clause-meets : goal.returns-then-is_below-clause-meets
returns-then-is_below-clause-meets g c =
    filled_as g.N.Naming.program c.args.cells.now (plain c.take_as.new.cells) c.args.floor c.args.from c.args.cell c.args.parts.now.items
    c.args.bound.now.items c.take_as.new.bound.items c.take_as.result c.take_as.ensures.apart c.take_as.ensures.given_up c.take_as.ensures.done
    (c.is_below.ensures.below c.if-is_below.true) c.is_below.ensures.sound c.requires.in_range.1

pub returns-then-is_below-clause-owed : goal.returns-then-is_below-clause-owed
returns-then-is_below-clause-owed g c = c.take_as.ensures.owed c.args.floor c.args.owed.now c.if-floor-cell.true (c.is_below.ensures.below c.if-is_below.true)

pub word-requires : goal.word-requires
word-requires g c = c.requires.in_range.0

pub take-requires-clause-in_row : goal.take-requires-clause-in_row
take-requires-clause-in_row g c = c.requires.in_range.1

pub take-requires-clause-in_range : goal.take-requires-clause-in_range
take-requires-clause-in_range g c =
    subst (CanHold g.N.Naming.program (length c.args.cells.now) c.args.from) (sym c.word.ensures.value ∙ c.in-Node.is) (c.word.ensures.sound.fits c.args.from)

pub take-requires-clause-falls : goal.take-requires-clause-falls
take-requires-clause-falls g c = λ other e. absurd (cc)

pub take-requires-clause-written : goal.take-requires-clause-written
take-requires-clause-written g c = λ pair e. absurd (cc)

pub returns-in-Node-clause-meets : goal.returns-in-Node-clause-meets
returns-in-Node-clause-meets g c =
    let P = g.N.Naming.program in
    let row = c.args.cells.now in
    let to : Ref = Node c.in-Node.node c.in-Node.base in
    filled P (plain row) (plain c.take.new.cells) (Cell c.args.from) (Cell c.args.cell) c.args.cell to c.args.parts.now.items c.args.bound.now.items
    c.take.new.bound.items c.take.result c.take.ensures.apart c.take.ensures.given_up c.take.ensures.done refl
    (set_leads row (Cell c.args.from) c.word.result to c.args.from refl c.word.ensures.value c.in-Node.is (λ e. absurd (cc))) refl
    (λ other e. absurd (cc)) c.requires.in_range.1
    (subst (CanHold P (length row) c.args.from) (sym c.word.ensures.value ∙ c.in-Node.is) (c.word.ensures.sound.fits c.args.from)) (λ pair e. absurd (cc))

pub take-requires-in-Number-clause-in_row : goal.take-requires-in-Number-clause-in_row
take-requires-in-Number-clause-in_row g c = c.requires.in_range.1

pub take-requires-in-Number-clause-in_range : goal.take-requires-in-Number-clause-in_range
take-requires-in-Number-clause-in_range g c =
    subst (CanHold g.N.Naming.program (length c.args.cells.now) c.args.from) (sym c.word.ensures.value ∙ c.in-Number.is) (c.word.ensures.sound.fits c.args.from)

pub take-requires-in-Number-clause-falls : goal.take-requires-in-Number-clause-falls
take-requires-in-Number-clause-falls g c = λ other e. absurd (cc)

pub take-requires-in-Number-clause-written : goal.take-requires-in-Number-clause-written
take-requires-in-Number-clause-written g c =
    let row = c.args.cells.now in
    let to : Ref = Number c.in-Number.pair in
    let knows : IsSetTo row c.args.from to = (sym c.word.ensures.value ∙ c.in-Number.is, λ e. absurd (cc)) in
    written_since_known (plain row) c.args.from to knows

pub returns-in-Number-clause-meets : goal.returns-in-Number-clause-meets
returns-in-Number-clause-meets g c =
    let P = g.N.Naming.program in
    let row = c.args.cells.now in
    let to : Ref = Number c.in-Number.pair in
    let knows : IsSetTo row c.args.from to = (sym c.word.ensures.value ∙ c.in-Number.is, λ e. absurd (cc)) in
    filled P (plain row) (plain c.take-in-Number.new.cells) (Cell c.args.from) (Cell c.args.cell) c.args.cell to c.args.parts.now.items
    c.args.bound.now.items c.take-in-Number.new.bound.items c.take-in-Number.result c.take-in-Number.ensures.apart c.take-in-Number.ensures.given_up
    c.take-in-Number.ensures.done refl
    (set_leads row (Cell c.args.from) c.word.result to c.args.from refl c.word.ensures.value c.in-Number.is (λ e. absurd (cc))) refl
    (λ other e. absurd (cc)) c.requires.in_range.1
    (subst (CanHold P (length row) c.args.from) (sym c.word.ensures.value ∙ c.in-Number.is) (c.word.ensures.sound.fits c.args.from))
    (written_since_known (plain row) c.args.from to knows)
