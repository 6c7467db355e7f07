use Rattle.and_examples.proofs.NumbersExamples
use Rattle.and_examples.proofs.reached.one_fork_one_failure.Goals as goal

pub returns-clause-fails_numbers : goal.returns-clause-fails_numbers
returns-clause-fails_numbers c = NumbersExamples.fails_numbers

pub returns-clause-fails_explored : goal.returns-clause-fails_explored
returns-clause-fails_explored c = NumbersExamples.fails_explored
