use Rattle.and_laws.proofs.Agreeing.{two_ends, one_shut}
use Rattle.and_laws.proofs.steps_agree.Goals as goal

pub returns-clause-one_end : goal.returns-clause-one_end
returns-clause-one_end c = λ P ag. two_ends

pub returns-clause-one_shut : goal.returns-clause-one_shut
returns-clause-one_shut c = λ P ag. one_shut
