use Rattle.std.proofs.Common.{length, subst}
use Rattle.and_model.specs.Terms.{framed}
use Rattle.and_model.specs.declared.reference.Ref.TheVariants.{Cell, Node}
use Rattle.and_program.specs.Skeletons.{node_term}
use Rattle.and_cells.specs.Ranges.{IsInRangeOrHalf}
use Rattle.and_cells.specs.Rows.{plain}
use Rattle.and_cells.specs.Seen.{LeadsTo}
use Rattle.and_branch_laws.specs.Judging.{outside}
use Rattle.and_determinacy.proofs.Parted.{led_parted}
use Rattle.and_determinacy.proofs.SureParts.{led_meets}
use Rattle.and_determinacy.proofs.seeing.term_meets.Goals as goal

pub returns-in-Cell-clause-meets : goal.returns-in-Cell-clause-meets
returns-in-Cell-clause-meets g c = λ e.
    let P = g.N.Naming.program in
    let row = c.args.cells.now in
    led_meets P row c.args.held.now.items c.fill.new.held.items c.args.given.now.items c.fill.new.given.items c.args.part (Cell c.in-Cell.cell)
    (framed outside (node_term P.skeleton.nodes c.args.asked.0)) c.requires.in_range
    (subst (IsInRangeOrHalf P (length row)) c.in-Cell.is c.end_of.ensures.in_range)
    (subst (LeadsTo (plain row) c.args.part) c.in-Cell.is c.end_of.ensures.leads) (c.fill.ensures.meets e)

pub returns-in-Node-clause-meets : goal.returns-in-Node-clause-meets
returns-in-Node-clause-meets g c = λ e.
    let P = g.N.Naming.program in
    let row = c.args.cells.now in
    led_meets P row c.args.held.now.items c.structure_meets.new.held.items c.args.given.now.items c.structure_meets.new.given.items c.args.part
    (Node c.in-Node.node c.in-Node.base) (framed outside (node_term P.skeleton.nodes c.args.asked.0)) c.requires.in_range
    (subst (IsInRangeOrHalf P (length row)) c.in-Node.is c.end_of.ensures.in_range)
    (subst (LeadsTo (plain row) c.args.part) c.in-Node.is c.end_of.ensures.leads) (c.structure_meets.ensures.meets e)

pub returns-in-Cell-clause-apart : goal.returns-in-Cell-clause-apart
returns-in-Cell-clause-apart g c = λ e. absurd (c.fill.ensures.apart e)

pub returns-in-Node-clause-apart : goal.returns-in-Node-clause-apart
returns-in-Node-clause-apart g c = λ e.
    let P = g.N.Naming.program in
    let row = c.args.cells.now in
    led_parted P row c.args.given.now.items c.args.part (Node c.in-Node.node c.in-Node.base)
    (framed outside (node_term P.skeleton.nodes c.args.asked.0)) c.requires.in_range
    (subst (IsInRangeOrHalf P (length row)) c.in-Node.is c.end_of.ensures.in_range)
    (subst (LeadsTo (plain row) c.args.part) c.in-Node.is c.end_of.ensures.leads) (c.structure_meets.ensures.apart e)
