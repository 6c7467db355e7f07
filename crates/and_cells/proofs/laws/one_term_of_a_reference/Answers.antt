use Rattle.and_cells.proofs.OneTerm.{one_term}
use Rattle.and_cells.proofs.laws.one_term_of_a_reference.Goals as goal

pub returns : goal.returns
returns c = one_term
