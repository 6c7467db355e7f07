use Rattle.and_examples.proofs.SumExamples
use Rattle.and_examples.proofs.cells.cells_with_a_sum.Goals as goal

pub returns-clause-skeleton_is : goal.returns-clause-skeleton_is
returns-clause-skeleton_is c = SumExamples.skeleton_is

pub returns-clause-ran : goal.returns-clause-ran
returns-clause-ran c = SumExamples.ran_kept

pub returns-clause-waits : goal.returns-clause-waits
returns-clause-waits c = SumExamples.waiting_kept

pub returns-clause-written_early : goal.returns-clause-written_early
returns-clause-written_early c = SumExamples.written_early
