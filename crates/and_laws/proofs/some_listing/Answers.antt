use Rattle.and_laws.proofs.Listings
use Rattle.and_laws.proofs.some_listing.Goals as goal

pub returns : goal.returns
returns c = Listings.some_listing
