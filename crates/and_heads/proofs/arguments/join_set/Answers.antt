use Rattle.std.proofs.Common.{ℕ, ◌<◌, length, refl, sym, subst, arith, ◌∙◌}
use Rattle.and_model.specs.declared.reference.Ref.{Ref}
use Rattle.and_model.specs.declared.reference.Ref.TheVariants.{Cell, Node}
use Rattle.and_cells.specs.Ranges.{CanHold}
use Rattle.and_cells.specs.Rows.{plain}
use Rattle.and_heads.proofs.Filling.{set_leads, met_beyond}
use Rattle.and_heads.proofs.arguments.join_set.Goals as goal

-- A cell to which one of the row is set is one of the row.
in_row : (beyond cell words : ℕ) → beyond < cell → cell < words → beyond < words
in_row beyond cell words falls there = omega (arith, falls, there)

pub word-requires : goal.word-requires
word-requires g c = c.requires.in_range.1

pub enter_from-requires-clause-in_range : goal.enter_from-requires-clause-in_range
enter_from-requires-clause-in_range g c = (
  c.requires.in_range.0,
  subst (CanHold g.N.Naming.program (length c.args.cells.now) c.args.cell) (sym c.word.ensures.value ∙ c.in-Node.is) (c.word.ensures.sound.fits c.args.cell),
)

pub returns-in-Node-clause-meets : goal.returns-in-Node-clause-meets
returns-in-Node-clause-meets g c =
    let row = c.args.cells.now in
    let to : Ref = Node c.in-Node.node c.in-Node.base in
    met_beyond g.N.Naming.program (plain row) (plain c.enter_from.new.cells) (Cell c.args.from) (Cell c.args.cell) to c.args.parts.now.items
    c.enter_from.new.parts.items c.args.bound.now.items c.enter_from.new.bound.items c.enter_from.result
    (set_leads row (Cell c.args.cell) c.word.result to c.args.cell refl c.word.ensures.value c.in-Node.is (λ e. absurd (cc))) c.enter_from.ensures.meets

pub join_beyond-requires-clause-in_range : goal.join_beyond-requires-clause-in_range
join_beyond-requires-clause-in_range g c =
    let row = c.args.cells.now in
    let cell = c.args.cell in
    let word = c.word.ensures in
    let falls : c.in-Cell.beyond < cell = subst (CanHold g.N.Naming.program (length row) cell) (sym word.value ∙ c.in-Cell.is) (word.sound.fits cell) in
    (c.requires.in_range.0, in_row c.in-Cell.beyond cell (length row) falls c.requires.in_range.1)

pub returns-in-Cell-clause-meets : goal.returns-in-Cell-clause-meets
returns-in-Cell-clause-meets g c =
    let row = c.args.cells.now in
    let to : Ref = Cell c.in-Cell.beyond in
    met_beyond g.N.Naming.program (plain row) (plain c.join_beyond.new.cells) (Cell c.args.from) (Cell c.args.cell) to c.args.parts.now.items
    c.join_beyond.new.parts.items c.args.bound.now.items c.join_beyond.new.bound.items c.join_beyond.result
    (set_leads row (Cell c.args.cell) c.word.result to c.args.cell refl c.word.ensures.value c.in-Cell.is (λ e. absurd (cc))) c.join_beyond.ensures.meets
