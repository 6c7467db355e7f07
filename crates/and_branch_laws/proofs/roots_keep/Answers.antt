use Rattle.and_branch_laws.proofs.Rooting
use Rattle.and_branch_laws.proofs.roots_keep.Goals as goal

pub returns-clause-kept : goal.returns-clause-kept
returns-clause-kept c = λ P new loaded x. Rooting.root_kept P loaded new x

pub returns-clause-unsolved : goal.returns-clause-unsolved
returns-clause-unsolved c = λ P loaded none. Rooting.unsolved_root_is_dead P loaded none

pub returns-clause-failing : goal.returns-clause-failing
returns-clause-failing c = λ P loaded has. Rooting.failing_root_is_dead P loaded has
