use Rattle.and_team_laws.proofs.Justified.{history_justified}
use Rattle.and_team_laws.proofs.forks_are_justified.Goals as goal

pub returns : goal.returns
returns c = history_justified
