use Rattle.and_examples.proofs.GuardExamples
use Rattle.and_examples.proofs.guards.guard_that_decides.Goals as goal

pub returns-clause-refuted : goal.returns-clause-refuted
returns-clause-refuted c = GuardExamples.refuted

pub returns-clause-first_is_none : goal.returns-clause-first_is_none
returns-clause-first_is_none c = GuardExamples.first_is_none

pub returns-clause-second_is_one : goal.returns-clause-second_is_one
returns-clause-second_is_one c = GuardExamples.second_is_one

pub returns-clause-not_shut : goal.returns-clause-not_shut
returns-clause-not_shut c = GuardExamples.not_shut

pub returns-clause-step : goal.returns-clause-step
returns-clause-step c = GuardExamples.step

pub returns-clause-no_forks : goal.returns-clause-no_forks
returns-clause-no_forks c = GuardExamples.no_forks

pub returns-clause-ends : goal.returns-clause-ends
returns-clause-ends c = GuardExamples.ends
