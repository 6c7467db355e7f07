use Rattle.and_examples.proofs.DeadExamples
use Rattle.and_examples.proofs.reached.one_candidate_over_the_limit.Goals as goal

pub returns-clause-over : goal.returns-clause-over
returns-clause-over c = DeadExamples.over

pub returns-clause-not_shut : goal.returns-clause-not_shut
returns-clause-not_shut c = DeadExamples.not_shut

pub returns-clause-neither_of_two : goal.returns-clause-neither_of_two
returns-clause-neither_of_two c = DeadExamples.neither_of_two

pub returns-clause-left_over : goal.returns-clause-left_over
returns-clause-left_over c = DeadExamples.left_over

pub returns-clause-not_left_over : goal.returns-clause-not_left_over
returns-clause-not_left_over c = DeadExamples.not_left_over
