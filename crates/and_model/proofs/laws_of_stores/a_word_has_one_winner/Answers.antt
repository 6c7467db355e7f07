use Rattle.and_model.proofs.laws_of_stores.a_word_has_one_winner.Goals as goal
use Rattle.and_model.proofs.StoreLemmas.{one_winner}

pub returns : goal.returns
returns c = one_winner
