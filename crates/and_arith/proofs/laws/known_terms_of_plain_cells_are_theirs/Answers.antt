use Rattle.and_arith.proofs.PlainTerms.{stands_known, known_stands}
use Rattle.and_arith.proofs.laws.known_terms_of_plain_cells_are_theirs.Goals as goal

pub returns : goal.returns
returns c = λ P row r t fall sound fits written. (
  (λ known. known_stands P fall row sound r t known fits),
  (λ stands. stands_known P fall row sound r t stands fits written),
)
