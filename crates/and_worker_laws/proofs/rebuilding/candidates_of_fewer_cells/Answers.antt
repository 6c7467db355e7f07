use Rattle.and_worker_laws.proofs.Candidates.{candidate_in_cells}
use Rattle.and_worker_laws.proofs.rebuilding.candidates_of_fewer_cells.Goals as goal

pub returns : goal.returns
returns c = λ P es cells t base count p q fresh apart d speaks own other longer no_cell states same candidate.
    candidate_in_cells P es cells t base count p q fresh apart d speaks own other longer no_cell states same candidate
