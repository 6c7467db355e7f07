use Rattle.and_team_laws.proofs.Doing.{did_more}
use Rattle.and_team_laws.proofs.one_event_more.Goals as goal

pub returns : goal.returns
returns c P limit history e entries others forks failed more_forks more_failed is_cut is_more_cut =
    did_more P limit history e entries others forks failed more_forks more_failed is_cut is_more_cut
