use Rattle.and_cell_laws.proofs.Circles
use Rattle.and_cell_laws.proofs.circles_have_no_solution.Goals as goal

pub returns : goal.returns
returns c = Circles.circles_have_no_solution
