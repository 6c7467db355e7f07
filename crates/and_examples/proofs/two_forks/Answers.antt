use Rattle.and_examples.proofs.TwoForks
use Rattle.and_examples.proofs.two_forks.Goals as goal

pub returns-clause-listing : goal.returns-clause-listing
returns-clause-listing c = TwoForks.listing

pub returns-clause-no_tree : goal.returns-clause-no_tree
returns-clause-no_tree c = TwoForks.no_tree

pub returns-clause-exhausted : goal.returns-clause-exhausted
returns-clause-exhausted c = TwoForks.exhausted
