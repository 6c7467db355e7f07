use Rattle.and_worker_laws.proofs.Branches.{branch_opens}
use Rattle.and_worker_laws.proofs.rebuilding.kept_branches_open_phases.Goals as goal

pub returns : goal.returns
returns c = λ P own rs row kept t k apart cells are. branch_opens P own rs row kept t k apart cells are
