use Rattle.and_moved_laws.proofs.States
use Rattle.and_moved_laws.proofs.sole_candidates_of_parts_step.Goals as goal

pub returns : goal.returns
returns c = λ P rs frames part kept t f o d of_it loaded k h called path_is only.
    States.sole_steps P loaded rs frames part kept t k f h called o path_is d of_it only
