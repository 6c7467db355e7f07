use Rattle.and_walk_laws.proofs.Rising.{rising, walked_in_order, walked_listing, walked_once}
use Rattle.and_walk_laws.proofs.walks_list.Goals as goal

pub returns-clause-listing : goal.returns-clause-listing
returns-clause-listing c = walked_listing

pub returns-clause-ordered : goal.returns-clause-ordered
returns-clause-ordered c = walked_in_order

pub returns-clause-rising : goal.returns-clause-rising
returns-clause-rising c = rising

pub returns-clause-once : goal.returns-clause-once
returns-clause-once c = walked_once
