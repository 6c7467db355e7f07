use Rattle.and_branch_laws.proofs.Stepping
use Rattle.and_branch_laws.proofs.reductions_keep.Goals as goal

pub returns : goal.returns
returns c = λ P rs row new front f back t o d of_it loaded k called path_is x. Stepping.reductions_keep P loaded rs row front f back t k
    called o path_is d of_it new x
