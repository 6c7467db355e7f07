use Rattle.and_lifting.proofs.ForksTrial
use Rattle.and_lifting.proofs.trials.either_forks.Goals as goal

pub returns-clause-listing : goal.returns-clause-listing
returns-clause-listing c = ForksTrial.listing
