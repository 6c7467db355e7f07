use Rattle.and_laws.proofs.Keys.{one_key}
use Rattle.and_laws.proofs.keys_agree.Goals as goal

pub returns : goal.returns
returns c = one_key
