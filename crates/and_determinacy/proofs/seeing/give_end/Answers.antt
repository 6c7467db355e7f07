use Rattle.std.proofs.Common.{length, subst}
use Rattle.and_model.specs.declared.reference.Ref.TheVariants.{Cell}
use Rattle.and_cells.specs.Ranges.{IsInRangeOrHalf}
use Rattle.and_cells.specs.Rows.{plain}
use Rattle.and_cells.specs.Seen.{LeadsTo}
use Rattle.and_determinacy.specs.Seeing.{ref_term}
use Rattle.and_determinacy.proofs.SureParts.{led_meets}
use Rattle.and_determinacy.proofs.seeing.give_end.Goals as goal

pub returns-in-Cell-clause-meets : goal.returns-in-Cell-clause-meets
returns-in-Cell-clause-meets g c = λ e given.
    let P = g.N.Naming.program in
    let row = c.args.cells.now in
    led_meets P row c.args.held.now.items c.give.new.held.items given given c.args.part (Cell c.in-Cell.cell) (ref_term P c.args.other)
    c.requires.part (subst (IsInRangeOrHalf P (length row)) c.in-Cell.is c.end_of.ensures.in_range)
    (subst (LeadsTo (plain row) c.args.part) c.in-Cell.is c.end_of.ensures.leads) (c.give.ensures.meets e given)
