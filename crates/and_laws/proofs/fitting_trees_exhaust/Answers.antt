use Rattle.and_laws.proofs.Listings.{fitting_trees_exhausted}
use Rattle.and_laws.proofs.Reaching.{fitting_trees_no_cut}
use Rattle.and_laws.proofs.fitting_trees_exhaust.Goals as goal

pub returns-clause-exhausted : goal.returns-clause-exhausted
returns-clause-exhausted c = fitting_trees_exhausted

pub returns-clause-no_cut : goal.returns-clause-no_cut
returns-clause-no_cut c = fitting_trees_no_cut
