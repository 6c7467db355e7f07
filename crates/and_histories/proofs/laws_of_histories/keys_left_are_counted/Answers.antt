use Rattle.and_histories.proofs.laws_of_histories.keys_left_are_counted.Goals as goal
use Rattle.and_histories.proofs.CoveringForks.{left_is_counted, none_comes_again}

pub returns-clause-counted : goal.returns-clause-counted
returns-clause-counted c = left_is_counted

pub returns-clause-none_again : goal.returns-clause-none_again
returns-clause-none_again c = none_comes_again
