use Rattle.and_store.specs.Worked.{seen_by}
use Rattle.and_term_rows.proofs.races.join_cells.Goals as goal

pub unify-unified-requires-clause-written : goal.unify-unified-requires-clause-written
unify-unified-requires-clause-written g c = c.in_ok-pairs.ensures.written (seen_by c.new-worker.result.pass)
