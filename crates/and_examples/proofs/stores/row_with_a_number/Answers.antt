use Rattle.and_examples.proofs.PairExamples
use Rattle.and_examples.proofs.stores.row_with_a_number.Goals as goal

pub returns-clause-row_holds : goal.returns-clause-row_holds
returns-clause-row_holds c = PairExamples.row_holds

pub returns-clause-half_written : goal.returns-clause-half_written
returns-clause-half_written c = PairExamples.half_written
