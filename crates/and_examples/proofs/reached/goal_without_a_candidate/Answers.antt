use Rattle.and_examples.proofs.DeadExamples
use Rattle.and_examples.proofs.reached.goal_without_a_candidate.Goals as goal

pub returns-clause-dead : goal.returns-clause-dead
returns-clause-dead c = DeadExamples.dead

pub returns-clause-one_candidate : goal.returns-clause-one_candidate
returns-clause-one_candidate c = DeadExamples.one_candidate

pub returns-clause-none_over : goal.returns-clause-none_over
returns-clause-none_over c = DeadExamples.none_over

pub returns-clause-steps_on : goal.returns-clause-steps_on
returns-clause-steps_on c = DeadExamples.steps_on
