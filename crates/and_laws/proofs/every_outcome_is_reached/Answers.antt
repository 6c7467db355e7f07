use Rattle.and_laws.proofs.Reaching.{every_outcome_reached}
use Rattle.and_laws.proofs.every_outcome_is_reached.Goals as goal

pub returns : goal.returns
returns c = every_outcome_reached
