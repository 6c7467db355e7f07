use Rattle.and_tree.proofs.Hands.{taken_hand, forked_hand, published_hand, ended_hand}
use Rattle.and_tree.proofs.laws.hands_after_calls.Goals as goal

pub returns-clause-taken : goal.returns-clause-taken
returns-clause-taken c = taken_hand

pub returns-clause-forked : goal.returns-clause-forked
returns-clause-forked c = forked_hand

pub returns-clause-published : goal.returns-clause-published
returns-clause-published c = published_hand

pub returns-clause-ended : goal.returns-clause-ended
returns-clause-ended c = ended_hand
