use Rattle.and_teams.proofs.Agreeing.{explored_forks, explored_counts, explored_entries}
use Rattle.and_teams.proofs.laws.explorations_agree.Goals as goal

pub returns-clause-forks : goal.returns-clause-forks
returns-clause-forks c = explored_forks

pub returns-clause-counts : goal.returns-clause-counts
returns-clause-counts c = explored_counts

pub returns-clause-entries : goal.returns-clause-entries
returns-clause-entries c = explored_entries
