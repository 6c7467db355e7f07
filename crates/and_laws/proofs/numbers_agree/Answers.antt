use Rattle.and_laws.proofs.Counting.{numbers_same}
use Rattle.and_laws.proofs.numbers_agree.Goals as goal

pub returns : goal.returns
returns c = λ P ag. numbers_same
