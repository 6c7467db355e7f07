use Rattle.and_laws.proofs.ForkOrder.{forks_rise}
use Rattle.and_laws.proofs.forks_rise_by_key.Goals as goal

pub returns : goal.returns
returns c = λ P ag t key forks b f. (forks_rise t key forks b f).1
