use Rattle.std.proofs.Common.{sym, subst}
use Rattle.and_cells.specs.Ranges.{IsNodeInRange}
use Rattle.and_cells.proofs.Chains.{reads_more}
use Rattle.and_clause_index.proofs.looking.Look.at.Goals as goal

pub at_all-requires-clause-node : goal.at_all-requires-clause-node
at_all-requires-clause-node g c =
    subst (λ n. IsNodeInRange g.C.Cells.program n c.args.node.0 c.args.base) (sym c.at_first-first.ensures.reads.words) c.requires.node

pub returns-clause-grew : goal.returns-clause-grew
returns-clause-grew g c =
    g.met.C.Cells.grew_on c.args.cells.now c.at_first-first.new.cells c.at_all.new.cells c.at_first-first.ensures.grew c.at_all.ensures.grew

pub returns-clause-reads : goal.returns-clause-reads
returns-clause-reads g c =
    reads_more (g.C.Cells.seen c.args.cells.now) (g.C.Cells.seen c.at_first-first.new.cells) (g.C.Cells.seen c.at_all.new.cells)
    c.at_first-first.ensures.reads c.at_all.ensures.reads
