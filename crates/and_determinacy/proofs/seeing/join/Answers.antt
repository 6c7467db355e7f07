use Rattle.std.proofs.Common.{length, subst}
use Rattle.and_model.specs.declared.reference.Ref.TheVariants.{Cell}
use Rattle.and_cells.specs.Ranges.{IsInRangeOrHalf}
use Rattle.and_cells.specs.Rows.{plain}
use Rattle.and_cells.specs.Seen.{LeadsTo}
use Rattle.and_determinacy.specs.Seeing.{ref_term}
use Rattle.and_determinacy.proofs.Parted.{structure_is}
use Rattle.and_determinacy.proofs.SureParts.{led_meets}
use Rattle.and_determinacy.proofs.SureRefs.{meets_back}
use Rattle.and_determinacy.proofs.seeing.join.Goals as goal

pub returns-in-Cell-clause-meets : goal.returns-in-Cell-clause-meets
returns-in-Cell-clause-meets g c = λ e given.
    let P = g.N.Naming.program in
    let row = c.args.cells.now in
    led_meets P row c.args.held.now.items c.give.new.held.items given given c.args.part (Cell c.in-Cell.cell) (ref_term P c.args.other)
    c.requires.part (subst (IsInRangeOrHalf P (length row)) c.in-Cell.is c.end_of.ensures.in_range)
    (subst (LeadsTo (plain row) c.args.part) c.in-Cell.is c.end_of.ensures.leads) (c.give.ensures.meets e given)

pub returns-in-Cell-clause-apart : goal.returns-in-Cell-clause-apart
returns-in-Cell-clause-apart g c = λ e. absurd (c.give.ensures.apart e)

pub join_structure-requires-clause-leads : goal.join_structure-requires-clause-leads
join_structure-requires-clause-leads g c =
    let P = g.N.Naming.program in
    let row = c.args.cells.now in
    structure_is P row c.args.part c.in-Node.node c.in-Node.base c.requires.part
    (subst (IsInRangeOrHalf P (length row)) c.in-Node.is c.end_of.ensures.in_range)
    (subst (LeadsTo (plain row) c.args.part) c.in-Node.is c.end_of.ensures.leads)

pub returns-in-Number-clause-meets : goal.returns-in-Number-clause-meets
returns-in-Number-clause-meets g c = λ e given.
    let P = g.N.Naming.program in
    meets_back P c.args.cells.now c.args.held.now.items c.give_end.new.held.items given given (ref_term P c.args.other) (ref_term P c.args.part)
    (c.give_end.ensures.meets e given)

pub returns-in-Number-clause-apart : goal.returns-in-Number-clause-apart
returns-in-Number-clause-apart g c = λ e. absurd (c.give_end.ensures.apart e)
