use Rattle.and_traces.proofs.Walked.{walk_of, query_listed}
use Rattle.and_traces.proofs.traces_are_walks.Goals as goal

pub returns-clause-walks : goal.returns-clause-walks
returns-clause-walks c = walk_of

pub returns-clause-listing : goal.returns-clause-listing
returns-clause-listing c = query_listed
