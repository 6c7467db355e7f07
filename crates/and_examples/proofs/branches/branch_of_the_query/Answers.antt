use Rattle.and_examples.proofs.StandsExamples
use Rattle.and_examples.proofs.branches.branch_of_the_query.Goals as goal

pub returns-clause-root_stands : goal.returns-clause-root_stands
returns-clause-root_stands c = StandsExamples.root_stands

pub returns-clause-too_much : goal.returns-clause-too_much
returns-clause-too_much c = StandsExamples.too_much

pub returns-clause-too_little : goal.returns-clause-too_little
returns-clause-too_little c = StandsExamples.too_little
