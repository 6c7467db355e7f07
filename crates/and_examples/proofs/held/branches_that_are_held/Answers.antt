use Rattle.and_examples.proofs.HeldExamples
use Rattle.and_examples.proofs.held.branches_that_are_held.Goals as goal

pub returns-clause-reduced_is : goal.returns-clause-reduced_is
returns-clause-reduced_is c = HeldExamples.reduced_is

pub returns-clause-sum_is : goal.returns-clause-sum_is
returns-clause-sum_is c = HeldExamples.sum_is

pub returns-clause-failed_is : goal.returns-clause-failed_is
returns-clause-failed_is c = HeldExamples.failed_is

pub returns-clause-split_is : goal.returns-clause-split_is
returns-clause-split_is c = HeldExamples.split_is

pub returns-clause-marked : goal.returns-clause-marked
returns-clause-marked c = HeldExamples.marked
