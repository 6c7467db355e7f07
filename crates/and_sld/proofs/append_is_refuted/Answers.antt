use Rattle.and_sld.proofs.Trials.{appended}
use Rattle.and_sld.proofs.append_is_refuted.Goals as goal

pub returns : goal.returns
returns c = appended
