use Rattle.and_cell_laws.proofs.Settling
use Rattle.and_cell_laws.proofs.settled_rows_have_terms.Goals as goal

pub returns : goal.returns
returns c = Settling.settled_rows_have_terms
