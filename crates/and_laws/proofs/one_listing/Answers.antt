use Rattle.and_laws.proofs.Listings
use Rattle.and_laws.proofs.one_listing.Goals as goal

pub returns : goal.returns
returns c = Listings.one_listing
