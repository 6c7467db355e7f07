use Rattle.and_worker_laws.proofs.Framing
use Rattle.and_worker_laws.proofs.rebuilding.variables_have_cells.Goals as goal

pub returns : goal.returns
returns c = λ P rs t made. Framing.variables_have_cells P rs t made
