use Rattle.and_examples.proofs.NatCut
use Rattle.and_examples.proofs.nat_cut.Goals as goal

pub returns-clause-weights : goal.returns-clause-weights
returns-clause-weights c = NatCut.weights

pub returns-clause-listing : goal.returns-clause-listing
returns-clause-listing c = NatCut.listing

pub returns-clause-over : goal.returns-clause-over
returns-clause-over c = NatCut.over

pub returns-clause-third : goal.returns-clause-third
returns-clause-third c = NatCut.third

pub returns-clause-not_exhausted : goal.returns-clause-not_exhausted
returns-clause-not_exhausted c = NatCut.not_exhausted

pub returns-clause-not_over : goal.returns-clause-not_over
returns-clause-not_over c = NatCut.not_over
