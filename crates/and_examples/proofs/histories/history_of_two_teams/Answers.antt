use Rattle.and_examples.proofs.PlainTreeExamples
use Rattle.and_examples.proofs.histories.history_of_two_teams.Goals as goal

pub returns-clause-history_is_legal : goal.returns-clause-history_is_legal
returns-clause-history_is_legal c = PlainTreeExamples.history_is_legal

pub returns-clause-first_calls : goal.returns-clause-first_calls
returns-clause-first_calls c = PlainTreeExamples.first_calls

pub returns-clause-claimed_twice_is_illegal : goal.returns-clause-claimed_twice_is_illegal
returns-clause-claimed_twice_is_illegal c = PlainTreeExamples.claimed_twice_is_illegal

pub returns-clause-last_is_told : goal.returns-clause-last_is_told
returns-clause-last_is_told c = PlainTreeExamples.last_is_told

pub returns-clause-forked_keys : goal.returns-clause-forked_keys
returns-clause-forked_keys c = PlainTreeExamples.forked_keys
