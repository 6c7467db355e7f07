use Rattle.and_worker_laws.proofs.Phase
use Rattle.and_worker_laws.proofs.workers_make_steps.Goals as goal

pub returns : goal.returns
returns c = λ P own rs first kept t k acts runs done. Phase.workers_end P own rs first kept t k acts runs done
