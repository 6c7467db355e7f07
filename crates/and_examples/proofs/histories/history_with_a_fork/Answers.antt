use Rattle.and_examples.proofs.PlainTreeExamples
use Rattle.and_examples.proofs.histories.history_with_a_fork.Goals as goal

pub returns-clause-forking_is_legal : goal.returns-clause-forking_is_legal
returns-clause-forking_is_legal c = PlainTreeExamples.forking_is_legal

pub returns-clause-spent_at_last : goal.returns-clause-spent_at_last
returns-clause-spent_at_last c = PlainTreeExamples.spent_at_last

pub returns-clause-not_opened_then : goal.returns-clause-not_opened_then
returns-clause-not_opened_then c = PlainTreeExamples.not_opened_then
