use Rattle.and_examples.proofs.NumbersExamples
use Rattle.and_examples.proofs.reached.two_forks_no_failure.Goals as goal

pub returns : goal.returns
returns c = NumbersExamples.splits_numbers
