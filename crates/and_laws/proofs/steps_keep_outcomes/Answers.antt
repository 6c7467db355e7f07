use Rattle.and_laws.proofs.Keeping.{step_keeps}
use Rattle.and_laws.proofs.Covering.{step_covers}
use Rattle.and_laws.proofs.steps_keep_outcomes.Goals as goal

pub returns-clause-trees : goal.returns-clause-trees
returns-clause-trees c = λ P ag. step_keeps

pub returns-clause-keys : goal.returns-clause-keys
returns-clause-keys c = λ P. step_covers
