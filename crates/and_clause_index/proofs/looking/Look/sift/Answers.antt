use Rattle.and_clause_index.specs.Tables.{entry_at}
use Rattle.and_clause_index.proofs.Sifting.{sifted_serves}
use Rattle.and_clause_index.proofs.looking.Look.sift.Goals as goal

pub returns : goal.returns
returns c = λ P row base known look served.
    sifted_serves P row c.args.node.0 base c.args.self.now look (entry_at c.args.table.now c.args.node.0) known c.args.clauses.now
    c.sifted.result.now c.sifted.ensures served
