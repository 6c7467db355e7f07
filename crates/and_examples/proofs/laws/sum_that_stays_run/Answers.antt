use Rattle.and_examples.proofs.LawExamples
use Rattle.and_examples.proofs.laws.sum_that_stays_run.Goals as goal

pub returns-clause-sum_ran : goal.returns-clause-sum_ran
returns-clause-sum_ran c = LawExamples.sum_ran

pub returns-clause-still_ran : goal.returns-clause-still_ran
returns-clause-still_ran c = LawExamples.still_ran
