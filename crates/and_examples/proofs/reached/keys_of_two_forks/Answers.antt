use Rattle.and_examples.proofs.ReachedExamples
use Rattle.and_examples.proofs.reached.keys_of_two_forks.Goals as goal

pub returns-clause-forks_shut : goal.returns-clause-forks_shut
returns-clause-forks_shut c = ReachedExamples.forks_shut

pub returns-clause-forks_first : goal.returns-clause-forks_first
returns-clause-forks_first c = ReachedExamples.forks_first

pub returns-clause-forks_second : goal.returns-clause-forks_second
returns-clause-forks_second c = ReachedExamples.forks_second

pub returns-clause-forks_keys : goal.returns-clause-forks_keys
returns-clause-forks_keys c = ReachedExamples.forks_keys
