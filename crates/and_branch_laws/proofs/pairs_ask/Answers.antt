use Rattle.and_branch_laws.proofs.PairEquations
use Rattle.and_branch_laws.proofs.pairs_ask.Goals as goal

pub returns-clause-nodes : goal.returns-clause-nodes
returns-clause-nodes c = λ P w b n d m fall left right. PairEquations.nodes_ask P w b n d m fall left right

pub returns-clause-number : goal.returns-clause-number
returns-clause-number c = λ P row written b n pair z fall is_written left. PairEquations.number_asks P row written b n pair z fall
    is_written left

pub returns-clause-alike : goal.returns-clause-alike
returns-clause-alike c = λ P old new es ds there back x. PairEquations.settled_alike P old new es ds there back x
