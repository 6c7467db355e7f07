use Rattle.and_examples.proofs.GuardExamples
use Rattle.and_examples.proofs.guards.guard_that_ends.Goals as goal

pub returns-clause-guards : goal.returns-clause-guards
returns-clause-guards c = GuardExamples.guards

pub returns-clause-first_is_one : goal.returns-clause-first_is_one
returns-clause-first_is_one c = GuardExamples.unguarded

pub returns-clause-second_is_none : goal.returns-clause-second_is_none
returns-clause-second_is_none c = GuardExamples.guarded

pub returns-clause-weights : goal.returns-clause-weights
returns-clause-weights c = GuardExamples.weights
