use Rattle.and_lifting.proofs.GuardsTrial
use Rattle.and_lifting.proofs.trials.either_guards.Goals as goal

pub returns-clause-ends : goal.returns-clause-ends
returns-clause-ends c = GuardsTrial.ends

pub returns-clause-listing : goal.returns-clause-listing
returns-clause-listing c = GuardsTrial.listing
