use Rattle.and_traces.proofs.Existing.{some_trace, some_query}
use Rattle.and_traces.proofs.each_has_a_trace.Goals as goal

pub returns-clause-tree : goal.returns-clause-tree
returns-clause-tree c = some_trace

pub returns-clause-query : goal.returns-clause-query
returns-clause-query c = some_query
