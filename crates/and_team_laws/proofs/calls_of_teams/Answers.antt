use Rattle.and_team_laws.proofs.Acting.{history_teams}
use Rattle.and_team_laws.proofs.Teams.{did_together}
use Rattle.and_team_laws.proofs.calls_of_teams.Goals as goal

pub returns-clause-teams : goal.returns-clause-teams
returns-clause-teams c = history_teams

pub returns-clause-parts : goal.returns-clause-parts
returns-clause-parts c = did_together
