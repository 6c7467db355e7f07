use Rattle.and_branch_laws.specs.Variables.{IsVariable}
use Rattle.and_worker_laws.proofs.PhaseCells.{alike_cells}
use Rattle.and_worker_laws.proofs.rebuilding.phases_close_in_cells.Goals as goal

pub returns : goal.returns
returns c = λ P rs names es solved apart cells meant speaks are of_cells only means alike.
    alike_cells (IsVariable P rs) names apart cells are meant es solved speaks of_cells only means alike
