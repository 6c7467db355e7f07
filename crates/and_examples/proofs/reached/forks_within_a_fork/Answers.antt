use Rattle.and_examples.proofs.ForksExamples
use Rattle.and_examples.proofs.reached.forks_within_a_fork.Goals as goal

pub returns-clause-in_order : goal.returns-clause-in_order
returns-clause-in_order c = ForksExamples.in_order

pub returns-clause-rising : goal.returns-clause-rising
returns-clause-rising c = ForksExamples.rising
