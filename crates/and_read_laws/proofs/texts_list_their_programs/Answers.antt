use Rattle.and_lifting.proofs.Listing
use Rattle.and_language.proofs.NumberedTexts.{numbered_text}
use Rattle.and_read_laws.proofs.texts_list_their_programs.Goals as goal

pub returns-clause-unfoldings : goal.returns-clause-unfoldings
returns-clause-unfoldings c = λ bytes S cs r. Listing.unfoldings_alike S (numbered_text bytes S r) cs

pub returns-clause-listings : goal.returns-clause-listings
returns-clause-listings c = λ bytes S limit ls r. Listing.lifting_keeps S limit ls (numbered_text bytes S r)

pub returns-clause-exhausted : goal.returns-clause-exhausted
returns-clause-exhausted c = λ bytes S limit r. Listing.exhausted_alike S limit (numbered_text bytes S r)

pub returns-clause-outputs : goal.returns-clause-outputs
returns-clause-outputs c = λ bytes S limit finish out r. Listing.outputs_alike S limit finish out (numbered_text bytes S r)
