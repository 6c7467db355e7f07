use Rattle.and_branch_laws.specs.Judging.{outside}
use Rattle.and_branch_laws.proofs.Stepping
use Rattle.and_branch_laws.proofs.sole_candidates_step.Goals as goal

pub returns : goal.returns
returns c = λ P rs row kept t f o d of_it loaded k h called path_is only. Stepping.sole_steps P loaded rs row kept t k f h called o
    path_is outside (λ e. cc) d of_it only
