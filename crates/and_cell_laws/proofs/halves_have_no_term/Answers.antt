use Rattle.and_cell_laws.proofs.Circles
use Rattle.and_cell_laws.proofs.halves_have_no_term.Goals as goal

pub returns : goal.returns
returns c = Circles.halves_have_no_term
