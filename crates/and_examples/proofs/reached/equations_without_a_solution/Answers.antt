use Rattle.and_examples.proofs.DeadExamples
use Rattle.and_examples.proofs.reached.equations_without_a_solution.Goals as goal

pub returns-clause-circle_dead : goal.returns-clause-circle_dead
returns-clause-circle_dead c = DeadExamples.circle_dead

pub returns-clause-not_below_dead : goal.returns-clause-not_below_dead
returns-clause-not_below_dead c = DeadExamples.not_below_dead

pub returns-clause-circle_fails : goal.returns-clause-circle_fails
returns-clause-circle_fails c = DeadExamples.circle_fails
