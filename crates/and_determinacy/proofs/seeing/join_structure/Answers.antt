use Rattle.std.proofs.Common.{◌≡◌, true, length, subst, rules}
use Rattle.and_model.specs.declared.reference.Ref.TheVariants.{Cell, Node}
use Rattle.and_cells.specs.Ranges.{IsInRangeOrHalf}
use Rattle.and_cells.specs.Rows.{plain}
use Rattle.and_cells.specs.Seen.{LeadsTo}
use Rattle.and_determinacy.specs.Seeing.{ref_term}
use Rattle.and_determinacy.proofs.Parted.{apart_back, led_apart, structure_is}
use Rattle.and_determinacy.proofs.SureParts.{led_meets}
use Rattle.and_determinacy.proofs.SureRefs.{meets_back}
use Rattle.and_determinacy.proofs.seeing.join_structure.Goals as goal

pub returns-in-Cell-clause-meets : goal.returns-in-Cell-clause-meets
returns-in-Cell-clause-meets g c = λ e given.
    let P = g.N.Naming.program in
    let row = c.args.cells.now in
    let held = c.args.held.now.items in
    let has = c.give.new.held.items in
    meets_back P row held has given given (ref_term P c.args.other) (ref_term P c.args.part)
    (led_meets P row held has given given c.args.other (Cell c.in-Cell.cell) (ref_term P c.args.part)
    c.requires.other (subst (IsInRangeOrHalf P (length row)) c.in-Cell.is c.end_of.ensures.in_range)
    (subst (LeadsTo (plain row) c.args.other) c.in-Cell.is c.end_of.ensures.leads) (c.give.ensures.meets e given))

pub returns-in-Cell-clause-apart : goal.returns-in-Cell-clause-apart
returns-in-Cell-clause-apart g c = λ e. absurd (c.give.ensures.apart e)

pub structures_are_apart-requires-clause-in_range : goal.structures_are_apart-requires-clause-in_range
structures_are_apart-requires-clause-in_range g c = c.requires.leads.in_range

pub structures_are_apart-requires-clause-other : goal.structures_are_apart-requires-clause-other
structures_are_apart-requires-clause-other g c =
    subst (IsInRangeOrHalf g.N.Naming.program (length c.args.cells.now)) c.in-Node.is c.end_of.ensures.in_range

pub returns-in-Node-clause-apart : goal.returns-in-Node-clause-apart
returns-in-Node-clause-apart g c = λ e.
    let P = g.N.Naming.program in
    let row = c.args.cells.now in
    let part = c.args.part in
    let other = c.args.other in
    let second = c.in-Node.second in
    let second_base = c.in-Node.second_base in
    let apart : c.structures_are_apart.result ≡ true = search rules in
    let at = structure_is P row other second second_base c.requires.other
    (subst (IsInRangeOrHalf P (length row)) c.in-Node.is c.end_of.ensures.in_range)
    (subst (LeadsTo (plain row) other) c.in-Node.is c.end_of.ensures.leads) in
    led_apart P row part c.args.node c.args.base (ref_term P other) c.requires.leads
    (apart_back P row (ref_term P other) (ref_term P (Node c.args.node c.args.base))
    (led_apart P row other second second_base (ref_term P (Node c.args.node c.args.base)) at
    (apart_back P row (ref_term P (Node c.args.node c.args.base)) (ref_term P (Node second second_base)) (c.structures_are_apart.ensures apart))))
