use Rattle.and_arith.proofs.Solving.{known_solves}
use Rattle.and_arith.proofs.laws.known_terms_are_in_each_solution.Goals as goal

pub returns : goal.returns
returns c = λ P s w u r t fall has solves known. known_solves P fall s w u has solves r t known
