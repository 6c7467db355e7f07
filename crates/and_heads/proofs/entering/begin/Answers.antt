use Rattle.and_cells.specs.Rows.{plain}
use Rattle.and_heads.proofs.Beginning.{begins_last}
use Rattle.and_heads.proofs.entering.begin.Goals as goal

pub returns-in-Done-clause-begins : goal.returns-in-Done-clause-begins
returns-in-Done-clause-begins g c =
    begins_last g.N.Naming.program (plain c.args.cells.now) (plain c.enter_pairs.new.cells) c.args.pairs.now c.enter_pairs.new.parts.items
    c.last_of.new.parts.items c.args.bound.now.items c.enter_pairs.new.bound.items c.last_of.result (c.enter_pairs.ensures.shapes c.in-Done.is)
    c.in-Done.ensures.comes c.last_of.ensures.at c.last_of.ensures.ended

pub returns-in-Done-clause-owed : goal.returns-in-Done-clause-owed
returns-in-Done-clause-owed g c = c.enter_pairs.ensures.owed
