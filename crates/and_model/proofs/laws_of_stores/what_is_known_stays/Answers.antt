use Rattle.and_model.proofs.laws_of_stores.what_is_known_stays.Goals as goal
use Rattle.and_model.proofs.StoreLemmas.{known_in_row}

pub returns : goal.returns
returns c = known_in_row
