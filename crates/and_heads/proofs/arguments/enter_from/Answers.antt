use Rattle.std.proofs.Common.{length, refl, sym, subst, ◌∙◌}
use Rattle.and_model.specs.declared.reference.Ref.{Ref}
use Rattle.and_model.specs.declared.reference.Ref.TheVariants.{Cell, Node}
use Rattle.and_cells.specs.Ranges.{CanHold}
use Rattle.and_cells.specs.Rows.{plain}
use Rattle.and_heads.proofs.Filling.{set_leads, filled_left, compared_from}
use Rattle.and_heads.proofs.arguments.enter_from.Goals as goal

pub is_free-requires : goal.is_free-requires
is_free-requires g c = c.requires.in_range.0

pub word-requires : goal.word-requires
word-requires g c = c.requires.in_range.0

pub take-requires-clause-in_row : goal.take-requires-clause-in_row
take-requires-clause-in_row g c = c.requires.in_range.0

pub take-requires-clause-in_range : goal.take-requires-clause-in_range
take-requires-clause-in_range g c = c.requires.in_range.1

pub take-requires-clause-falls : goal.take-requires-clause-falls
take-requires-clause-falls g c = λ other e. absurd (cc)

pub take-requires-clause-written : goal.take-requires-clause-written
take-requires-clause-written g c = λ pair e. absurd (cc)

pub returns-then-is_free-clause-meets : goal.returns-then-is_free-clause-meets
returns-then-is_free-clause-meets g c =
    let to : Ref = Node c.args.node c.args.base in
    filled_left g.N.Naming.program (plain c.args.cells.now) (plain c.take.new.cells) (Cell c.args.from) to c.args.from to c.args.parts.now.items
    c.args.bound.now.items c.take.new.bound.items c.take.result c.take.ensures.apart c.take.ensures.given_up c.take.ensures.done refl refl refl
    (λ other e. absurd (cc)) c.requires.in_range.0 c.requires.in_range.1 (λ pair e. absurd (cc))

pub compare-requires-clause-one_in_range : goal.compare-requires-clause-one_in_range
compare-requires-clause-one_in_range g c =
    subst (CanHold g.N.Naming.program (length c.args.cells.now) c.args.from) (sym c.word.ensures.value ∙ c.in-Node.is) (c.word.ensures.sound.fits c.args.from)

pub compare-requires-clause-other_in_range : goal.compare-requires-clause-other_in_range
compare-requires-clause-other_in_range g c = c.requires.in_range.1

pub compare-requires-clause-one_written : goal.compare-requires-clause-one_written
compare-requires-clause-one_written g c = λ pair e. absurd (cc)

pub compare-requires-clause-other_written : goal.compare-requires-clause-other_written
compare-requires-clause-other_written g c = λ pair e. absurd (cc)

pub returns-in-Node-clause-meets : goal.returns-in-Node-clause-meets
returns-in-Node-clause-meets g c =
    let row = c.args.cells.now in
    let to : Ref = Node c.in-Node.there c.in-Node.by in
    compared_from g.N.Naming.program (plain row) (Cell c.args.from) (Node c.args.node c.args.base) to c.args.parts.now.items c.compare.new.parts.items
    c.args.bound.now.items c.compare.result
    (set_leads row (Cell c.args.from) c.word.result to c.args.from refl c.word.ensures.value c.in-Node.is (λ e. absurd (cc)))
    (c.compare.ensures c.args.bound.now.items)
