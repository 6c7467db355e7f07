use Rattle.and_examples.proofs.Endless
use Rattle.and_examples.proofs.endless_loop.Goals as goal

pub returns-clause-listing : goal.returns-clause-listing
returns-clause-listing c = Endless.listing

pub returns-clause-over : goal.returns-clause-over
returns-clause-over c = Endless.over

pub returns-clause-exhausted : goal.returns-clause-exhausted
returns-clause-exhausted c = Endless.exhausted
