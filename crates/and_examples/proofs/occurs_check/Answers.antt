use Rattle.and_examples.proofs.Circle
use Rattle.and_examples.proofs.occurs_check.Goals as goal

pub returns-clause-unsolved : goal.returns-clause-unsolved
returns-clause-unsolved c = Circle.unsolved

pub returns-clause-no_end : goal.returns-clause-no_end
returns-clause-no_end c = Circle.no_end

pub returns-clause-listing : goal.returns-clause-listing
returns-clause-listing c = Circle.listing
