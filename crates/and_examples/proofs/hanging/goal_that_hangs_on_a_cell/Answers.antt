use Rattle.and_examples.proofs.HangingExamples
use Rattle.and_examples.proofs.hanging.goal_that_hangs_on_a_cell.Goals as goal

pub returns-clause-row_holds : goal.returns-clause-row_holds
returns-clause-row_holds c = HangingExamples.row_holds

pub returns-clause-dropped : goal.returns-clause-dropped
returns-clause-dropped c = HangingExamples.dropped

pub returns-clause-left_open : goal.returns-clause-left_open
returns-clause-left_open c = HangingExamples.left_open
