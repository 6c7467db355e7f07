use Rattle.std.proofs.Common.{◌≡◌, false, refl, sym, subst, length}
use Rattle.and_model.specs.Store.{is_half}
use Rattle.and_cells.specs.Rows.{plain}
use Rattle.and_cells.proofs.Chains.{reads_nothing}
use Rattle.and_unify.proofs.MeetingSteps.{whole_in_range}
use Rattle.and_heads.proofs.Comparing.{meets_one, set_left, set_right}
use Rattle.and_heads.proofs.entering.meet.Goals as goal

pub take-requires-clause-in_range : goal.take-requires-clause-in_range
take-requires-clause-in_range g c =
    whole_in_range g.N.Naming.program (length c.args.cells.now) c.args.one (c.case_of.ensures.left c.in-SetLeft.cell c.in-SetLeft.is).no_half
    c.requires.one_in_range

pub take-requires-in-SetRight-clause-in_range : goal.take-requires-in-SetRight-clause-in_range
take-requires-in-SetRight-clause-in_range g c =
    whole_in_range g.N.Naming.program (length c.args.cells.now) c.args.other (c.case_of.ensures.right c.in-SetRight.cell c.in-SetRight.is).no_half
    c.requires.other_in_range

pub returns-in-Half-clause-meets : goal.returns-in-Half-clause-meets
returns-in-Half-clause-meets g c = (reads_nothing (plain c.args.cells.now), refl)

pub returns-in-OneCell-clause-meets : goal.returns-in-OneCell-clause-meets
returns-in-OneCell-clause-meets g c =
    let one_cell = c.case_of.ensures.one_cell c.in-OneCell.is in
    let parts = c.args.parts.now.items in
    meets_one g.N.Naming.program (plain c.args.cells.now) c.args.one c.args.other parts parts c.args.bound.now.items (sym one_cell.0)
    (subst (λ r. is_half r ≡ false) one_cell.0 one_cell.1) refl

pub returns-in-SetLeft-clause-meets : goal.returns-in-SetLeft-clause-meets
returns-in-SetLeft-clause-meets g c =
    set_right g.N.Naming.program (plain c.args.cells.now) (plain c.take.new.cells) c.args.one c.args.other c.in-SetLeft.cell c.args.parts.now.items
    c.args.bound.now.items c.take.new.bound.items c.take.result c.take.ensures.apart c.take.ensures.given_up c.take.ensures.done
    (c.case_of.ensures.left c.in-SetLeft.cell c.in-SetLeft.is) c.requires.other_in_range c.requires.one_in_range c.requires.one_written

pub returns-in-SetRight-clause-meets : goal.returns-in-SetRight-clause-meets
returns-in-SetRight-clause-meets g c =
    set_left g.N.Naming.program (plain c.args.cells.now) (plain c.take-in-SetRight.new.cells) c.args.one c.args.other c.in-SetRight.cell
    c.args.parts.now.items c.args.bound.now.items c.take-in-SetRight.new.bound.items c.take-in-SetRight.result c.take-in-SetRight.ensures.apart
    c.take-in-SetRight.ensures.given_up c.take-in-SetRight.ensures.done
    (c.case_of.ensures.right c.in-SetRight.cell c.in-SetRight.is) c.requires.one_in_range c.requires.other_in_range c.requires.other_written

pub returns-in-Compare-clause-meets : goal.returns-in-Compare-clause-meets
returns-in-Compare-clause-meets g c = c.compare.ensures c.args.bound.now.items
