use Rattle.std.proofs.Common.{subst}
use Rattle.and_cells.specs.Rows.{plain}
use Rattle.and_cells.specs.Seen.{LeadsTo}
use Rattle.and_reduction.proofs.NumbersSet.{same_row, ends_free}
use Rattle.and_reduction.proofs.settling.end_of.Goals as goal

pub returns-clause-unchanged : goal.returns-clause-unchanged
returns-clause-unchanged g c = same_row c.args.cells.now c.deref.new.cells c.deref.ensures.reads

pub returns-clause-leads : goal.returns-clause-leads
returns-clause-leads g c =
    subst (λ row. LeadsTo (plain row) c.args.from c.deref.result) (same_row c.args.cells.now c.deref.new.cells c.deref.ensures.reads) c.deref.ensures.leads

pub returns-clause-free : goal.returns-clause-free
returns-clause-free g c = λ cell is. ends_free c.args.cells.now c.deref.new.cells c.deref.result cell is c.deref.ensures.ends
