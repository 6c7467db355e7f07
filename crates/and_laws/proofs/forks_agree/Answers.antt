use Rattle.and_laws.proofs.Counting.{forks_same}
use Rattle.and_laws.proofs.forks_agree.Goals as goal

pub returns : goal.returns
returns c = λ P ag. forks_same
