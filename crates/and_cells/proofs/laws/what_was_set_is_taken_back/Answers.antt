use Rattle.and_cells.proofs.TakingBack.{took_back}
use Rattle.and_cells.proofs.laws.what_was_set_is_taken_back.Goals as goal

pub returns : goal.returns
returns c = took_back
