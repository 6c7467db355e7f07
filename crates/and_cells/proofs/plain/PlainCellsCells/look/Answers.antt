use Rattle.and_cells.proofs.PlainRows.{plain_reads}
use Rattle.and_cells.proofs.plain.PlainCellsCells.look.Goals as goal

pub returns-clause-only_reads : goal.returns-clause-only_reads
returns-clause-only_reads g c = plain_reads c.args.self.now
