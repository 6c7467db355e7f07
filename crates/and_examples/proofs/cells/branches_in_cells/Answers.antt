use Rattle.and_examples.proofs.ViewExamples
use Rattle.and_examples.proofs.cells.branches_in_cells.Goals as goal

pub returns-clause-skeleton_is : goal.returns-clause-skeleton_is
returns-clause-skeleton_is c = ViewExamples.skeleton_is

pub returns-clause-failed : goal.returns-clause-failed
returns-clause-failed c = ViewExamples.failed_stands_in

pub returns-clause-split : goal.returns-clause-split
returns-clause-split c = ViewExamples.split_stands_in

pub returns-clause-ran : goal.returns-clause-ran
returns-clause-ran c = ViewExamples.ran_stands_in

pub returns-clause-not_read : goal.returns-clause-not_read
returns-clause-not_read c = ViewExamples.not_read
