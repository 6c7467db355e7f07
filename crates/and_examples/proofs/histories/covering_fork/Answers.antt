use Rattle.and_examples.proofs.CoveringExamples
use Rattle.and_examples.proofs.histories.covering_fork.Goals as goal

pub returns-clause-both_cover : goal.returns-clause-both_cover
returns-clause-both_cover c = CoveringExamples.both_cover

pub returns-clause-first_alone : goal.returns-clause-first_alone
returns-clause-first_alone c = CoveringExamples.first_alone

pub returns-clause-second_twice : goal.returns-clause-second_twice
returns-clause-second_twice c = CoveringExamples.second_twice
