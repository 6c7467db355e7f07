use Rattle.and_team_laws.proofs.Walked.{history_walked}
use Rattle.and_team_laws.proofs.histories_walk.Goals as goal

pub returns : goal.returns
returns c P limit teams history s entries forks failed is_cut some fits carried none did =
    history_walked P limit teams history s entries forks failed is_cut some carried none did
