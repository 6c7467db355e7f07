use Rattle.and_examples.proofs.LimitExamples
use Rattle.and_examples.proofs.reached.clause_over_the_limit.Goals as goal

pub returns-clause-at_least_2_weighs : goal.returns-clause-at_least_2_weighs
returns-clause-at_least_2_weighs c = LimitExamples.at_least_2_weighs

pub returns-clause-at_least_2_reached : goal.returns-clause-at_least_2_reached
returns-clause-at_least_2_reached c = LimitExamples.at_least_2_reached

pub returns-clause-at_least_2_lives : goal.returns-clause-at_least_2_lives
returns-clause-at_least_2_lives c = LimitExamples.at_least_2_lives

pub returns-clause-over_six : goal.returns-clause-over_six
returns-clause-over_six c = LimitExamples.over_six
