use Rattle.and_lifting.proofs.AnswersTrial
use Rattle.and_lifting.proofs.trials.either_answers.Goals as goal

pub returns-clause-weights : goal.returns-clause-weights
returns-clause-weights c = AnswersTrial.weights

pub returns-clause-listing : goal.returns-clause-listing
returns-clause-listing c = AnswersTrial.listing

pub returns-clause-within_three : goal.returns-clause-within_three
returns-clause-within_three c = AnswersTrial.within_three
