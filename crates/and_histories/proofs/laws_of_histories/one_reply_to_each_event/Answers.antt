use Rattle.and_histories.proofs.laws_of_histories.one_reply_to_each_event.Goals as goal
use Rattle.and_histories.proofs.Determined.{one_answer}

pub returns : goal.returns
returns c = one_answer
