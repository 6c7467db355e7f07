use Rattle.and_examples.proofs.Waiting
use Rattle.and_examples.proofs.floundered_goal.Goals as goal

pub returns-clause-closes : goal.returns-clause-closes
returns-clause-closes c = Waiting.floundered_closes

pub returns-clause-only : goal.returns-clause-only
returns-clause-only c = Waiting.floundered_only

pub returns-clause-ends : goal.returns-clause-ends
returns-clause-ends c = Waiting.floundered_ends

pub returns-clause-no_answer : goal.returns-clause-no_answer
returns-clause-no_answer c = Waiting.floundered_no_answer

pub returns-clause-exhausted : goal.returns-clause-exhausted
returns-clause-exhausted c = Waiting.floundered_exhausted
