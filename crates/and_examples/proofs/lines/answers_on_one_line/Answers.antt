use Rattle.and_examples.proofs.LineExamples
use Rattle.and_examples.proofs.lines.answers_on_one_line.Goals as goal

pub returns-clause-named_along : goal.returns-clause-named_along
returns-clause-named_along c = LineExamples.named_along

pub returns-clause-open_list : goal.returns-clause-open_list
returns-clause-open_list c = LineExamples.open_list

pub returns-clause-lists_within : goal.returns-clause-lists_within
returns-clause-lists_within c = LineExamples.lists_within

pub returns-clause-other_tails : goal.returns-clause-other_tails
returns-clause-other_tails c = LineExamples.other_tails

pub returns-clause-minuses : goal.returns-clause-minuses
returns-clause-minuses c = LineExamples.minuses

pub returns-clause-hidden : goal.returns-clause-hidden
returns-clause-hidden c = LineExamples.hidden

pub returns-clause-no_variable : goal.returns-clause-no_variable
returns-clause-no_variable c = LineExamples.no_variable

pub returns-clause-none_shown : goal.returns-clause-none_shown
returns-clause-none_shown c = LineExamples.none_shown

pub returns-clause-floundered : goal.returns-clause-floundered
returns-clause-floundered c = LineExamples.floundered

pub returns-clause-floundered_hidden : goal.returns-clause-floundered_hidden
returns-clause-floundered_hidden c = LineExamples.floundered_hidden

pub returns-clause-floundered_twice : goal.returns-clause-floundered_twice
returns-clause-floundered_twice c = LineExamples.floundered_twice
