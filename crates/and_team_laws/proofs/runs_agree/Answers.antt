use Rattle.and_team_laws.proofs.Agreeing.{agreed_forks, agreed_numbers, agreed_entries}
use Rattle.and_team_laws.proofs.runs_agree.Goals as goal

pub returns-clause-forks : goal.returns-clause-forks
returns-clause-forks c = agreed_forks

pub returns-clause-numbers : goal.returns-clause-numbers
returns-clause-numbers c = agreed_numbers

pub returns-clause-entries : goal.returns-clause-entries
returns-clause-entries c = agreed_entries
