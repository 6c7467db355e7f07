use Rattle.and_team_laws.proofs.Told.{history_answers, history_gives_none}
use Rattle.and_team_laws.proofs.answers_told.Goals as goal

pub returns-clause-answered : goal.returns-clause-answered
returns-clause-answered c = history_answers

pub returns-clause-given_up : goal.returns-clause-given_up
returns-clause-given_up c = history_gives_none
