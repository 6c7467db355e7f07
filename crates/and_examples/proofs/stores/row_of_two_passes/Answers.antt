use Rattle.and_examples.proofs.StoreExamples
use Rattle.and_examples.proofs.stores.row_of_two_passes.Goals as goal

pub returns-clause-row_holds : goal.returns-clause-row_holds
returns-clause-row_holds c = StoreExamples.row_holds

pub returns-clause-overwritten : goal.returns-clause-overwritten
returns-clause-overwritten c = StoreExamples.overwritten
