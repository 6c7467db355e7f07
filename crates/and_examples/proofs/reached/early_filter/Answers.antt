use Rattle.and_examples.proofs.ReachedExamples
use Rattle.and_examples.proofs.reached.early_filter.Goals as goal

pub returns-clause-early_start_weighs : goal.returns-clause-early_start_weighs
returns-clause-early_start_weighs c = ReachedExamples.early_start_weighs

pub returns-clause-early_first : goal.returns-clause-early_first
returns-clause-early_first c = ReachedExamples.early_first

pub returns-clause-early_step : goal.returns-clause-early_step
returns-clause-early_step c = ReachedExamples.early_step

pub returns-clause-early_code : goal.returns-clause-early_code
returns-clause-early_code c = ReachedExamples.early_code

pub returns-clause-early_weighs : goal.returns-clause-early_weighs
returns-clause-early_weighs c = ReachedExamples.early_weighs

pub returns-clause-early_ends : goal.returns-clause-early_ends
returns-clause-early_ends c = ReachedExamples.early_ends

pub returns-clause-early_made : goal.returns-clause-early_made
returns-clause-early_made c = ReachedExamples.early_made

pub returns-clause-early_listing : goal.returns-clause-early_listing
returns-clause-early_listing c = ReachedExamples.early_listing
