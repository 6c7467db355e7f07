use Rattle.and_clauses.specs.Views.{table_of}
use Rattle.and_reader.proofs.Told.{fault_told}
use Rattle.and_reader.proofs.reading.Reader.finish.Goals as goal

pub returns-in-Err-clause-refused : goal.returns-in-Err-clause-refused
returns-in-Err-clause-refused c = λ bytes s h l.
    fault_told bytes (table_of c.args.self.now.table) s c.args.self.now.clause.line _ _ c.table_cause.ensures (c.in-Err.ensures.refused bytes s h) l
