use Rattle.and_moved_laws.proofs.Reducing
use Rattle.and_moved_laws.proofs.reductions_keep_parts.Goals as goal

pub returns : goal.returns
returns c = λ P rs frames part new front f back t o d of_it loaded k called path_is short x names.
    Reducing.reduced_kept P loaded rs frames part front f back t k called o path_is d of_it short new x names
