use Rattle.and_branch_laws.proofs.Visiting
use Rattle.and_branch_laws.proofs.reductions_decide.Goals as goal

pub returns-clause-decided : goal.returns-clause-decided
returns-clause-decided c = λ P rs t cs made d. Visiting.reductions_decide P.program rs t made cs d

pub returns-clause-whole : goal.returns-clause-whole
returns-clause-whole c = λ P t whole. Visiting.whole_decided t whole
