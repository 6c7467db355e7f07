use Rattle.and_lifting.proofs.Listing
use Rattle.and_lifting.proofs.lifting_keeps_the_listing.Goals as goal

pub returns-clause-unfoldings : goal.returns-clause-unfoldings
returns-clause-unfoldings c = λ P cs n. Listing.unfoldings_alike P n cs

pub returns-clause-listings : goal.returns-clause-listings
returns-clause-listings c = Listing.lifting_keeps

pub returns-clause-exhausted : goal.returns-clause-exhausted
returns-clause-exhausted c = Listing.exhausted_alike

pub returns-clause-outputs : goal.returns-clause-outputs
returns-clause-outputs c = Listing.outputs_alike
