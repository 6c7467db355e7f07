use Rattle.and_laws.proofs.Codes.{no_proper_prefix, listing_in_order}
use Rattle.and_laws.proofs.codes_in_order.Goals as goal

pub returns-clause-prefixes : goal.returns-clause-prefixes
returns-clause-prefixes c = λ P ag. no_proper_prefix

pub returns-clause-rising : goal.returns-clause-rising
returns-clause-rising c = listing_in_order
