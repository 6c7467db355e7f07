use Rattle.and_laws.proofs.Members.{listing_entries, entries_listing}
use Rattle.and_laws.proofs.listed_entries.Goals as goal

pub returns-clause-all : goal.returns-clause-all
returns-clause-all c = listing_entries

pub returns-clause-determined : goal.returns-clause-determined
returns-clause-determined c = entries_listing
