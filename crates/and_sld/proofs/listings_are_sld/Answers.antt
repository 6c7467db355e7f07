use Rattle.and_sld.proofs.Computed.{listed_computed}
use Rattle.and_sld.proofs.listings_are_sld.Goals as goal

pub returns : goal.returns
returns c = listed_computed
