use Rattle.and_branch_laws.proofs.Settling
use Rattle.and_branch_laws.proofs.settling_keeps.Goals as goal

pub returns-clause-kept : goal.returns-clause-kept
returns-clause-kept c = λ P rs row new es kept t loaded u x. Settling.settled_kept P loaded rs row es kept t u new x

pub returns-clause-unsolved : goal.returns-clause-unsolved
returns-clause-unsolved c = λ P rs row es kept t loaded u none. Settling.unsettled_is_dead P loaded rs row es kept t u none
