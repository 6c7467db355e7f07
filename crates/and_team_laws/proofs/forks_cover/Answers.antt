use Rattle.and_team_laws.proofs.Covers.{history_covers}
use Rattle.and_team_laws.proofs.forks_cover.Goals as goal

pub returns : goal.returns
returns c = history_covers
