use Rattle.and_laws.proofs.Keeping
use Rattle.and_laws.proofs.Covering.{dead_covers_none}
use Rattle.and_laws.proofs.dead_has_none.Goals as goal

pub returns-clause-trees : goal.returns-clause-trees
returns-clause-trees c = λ P ag. Keeping.dead_has_none

pub returns-clause-keys : goal.returns-clause-keys
returns-clause-keys c = λ P. dead_covers_none
