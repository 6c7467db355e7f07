use Rattle.and_examples.proofs.Waiting
use Rattle.and_examples.proofs.WordExamples
use Rattle.and_examples.proofs.laws.words_of_the_laws.Goals as goal

pub returns-clause-at_paths : goal.returns-clause-at_paths
returns-clause-at_paths c = WordExamples.at_paths

pub returns-clause-not_at : goal.returns-clause-not_at
returns-clause-not_at c = WordExamples.not_at

pub returns-clause-before : goal.returns-clause-before
returns-clause-before c = WordExamples.before

pub returns-clause-not_before : goal.returns-clause-not_before
returns-clause-not_before c = WordExamples.not_before

pub returns-clause-within : goal.returns-clause-within
returns-clause-within c = WordExamples.within

pub returns-clause-not_within : goal.returns-clause-not_within
returns-clause-not_within c = WordExamples.not_within

pub returns-clause-all_fit : goal.returns-clause-all_fit
returns-clause-all_fit c = Waiting.floundered_fits

pub returns-clause-not_all_fit : goal.returns-clause-not_all_fit
returns-clause-not_all_fit c = WordExamples.not_all_fit

pub returns-clause-woven : goal.returns-clause-woven
returns-clause-woven c = WordExamples.woven

pub returns-clause-not_turned : goal.returns-clause-not_turned
returns-clause-not_turned c = WordExamples.not_turned

pub returns-clause-covers : goal.returns-clause-covers
returns-clause-covers c = WordExamples.covers

pub returns-clause-covers_not : goal.returns-clause-covers_not
returns-clause-covers_not c = WordExamples.covers_not
