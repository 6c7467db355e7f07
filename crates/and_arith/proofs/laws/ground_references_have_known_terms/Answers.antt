use Rattle.and_arith.proofs.Solving.{ground_known}
use Rattle.and_arith.proofs.laws.ground_references_have_known_terms.Goals as goal

pub returns : goal.returns
returns c = λ P s w u r t fall has solves holds no_half fits ground is. ground_known P fall s w u has solves holds r t is ground fits no_half
