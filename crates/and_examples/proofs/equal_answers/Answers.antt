use Rattle.and_examples.proofs.EqualAnswers
use Rattle.and_examples.proofs.Forking
use Rattle.and_examples.proofs.equal_answers.Goals as goal

pub returns-clause-listing : goal.returns-clause-listing
returns-clause-listing c = EqualAnswers.listing

pub returns-clause-exhausted : goal.returns-clause-exhausted
returns-clause-exhausted c = EqualAnswers.exhausted

pub returns-clause-too_heavy : goal.returns-clause-too_heavy
returns-clause-too_heavy c = EqualAnswers.too_heavy

pub returns-clause-forks : goal.returns-clause-forks
returns-clause-forks c = Forking.one_fork
