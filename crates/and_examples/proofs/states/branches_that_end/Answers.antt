use Rattle.and_examples.proofs.StateExamples
use Rattle.and_examples.proofs.states.branches_that_end.Goals as goal

pub returns-clause-goal_fails : goal.returns-clause-goal_fails
returns-clause-goal_fails c = StateExamples.goal_fails

pub returns-clause-not_determinate : goal.returns-clause-not_determinate
returns-clause-not_determinate c = StateExamples.not_determinate

pub returns-clause-equations_fail : goal.returns-clause-equations_fail
returns-clause-equations_fail c = StateExamples.equations_fail

pub returns-clause-waits : goal.returns-clause-waits
returns-clause-waits c = StateExamples.waits

pub returns-clause-answers : goal.returns-clause-answers
returns-clause-answers c = StateExamples.answers
