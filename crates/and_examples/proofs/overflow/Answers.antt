use Rattle.and_examples.proofs.Running
use Rattle.and_examples.proofs.overflow.Goals as goal

pub returns-clause-closes : goal.returns-clause-closes
returns-clause-closes c = Running.too_much_closes

pub returns-clause-no_end : goal.returns-clause-no_end
returns-clause-no_end c = Running.too_much_no_end

pub returns-clause-listing : goal.returns-clause-listing
returns-clause-listing c = Running.too_much_listing

pub returns-clause-quotients : goal.returns-clause-quotients
returns-clause-quotients c = Running.quotients_ends
