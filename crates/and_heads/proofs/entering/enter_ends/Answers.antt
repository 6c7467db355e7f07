use Rattle.and_cells.specs.Rows.{plain}
use Rattle.and_cells.proofs.Chains.{reads_nothing}
use Rattle.and_heads.proofs.Meeting.{meets_led}
use Rattle.and_heads.proofs.entering.enter_ends.Goals as goal

pub returns-clause-meets : goal.returns-clause-meets
returns-clause-meets g c =
    let s = plain c.args.cells.now in
    meets_led g.N.Naming.program c.args.left c.args.right c.end_of-one.result c.end_of-other.result s s (plain c.meet.new.cells) c.args.parts.now.items
    c.meet.new.parts.items c.args.bound.now.items c.meet.new.bound.items c.meet.result
    (record { reads = reads_nothing s; left_leads = c.end_of-one.ensures.leads; right_leads = c.end_of-other.ensures.leads }) c.meet.ensures.meets
