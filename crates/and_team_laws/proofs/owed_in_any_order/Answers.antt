use Rattle.and_team_laws.proofs.Owing.{any_root, any_walked, any_forked, any_none}
use Rattle.and_team_laws.proofs.owed_in_any_order.Goals as goal

pub returns-clause-root : goal.returns-clause-root
returns-clause-root c = any_root

pub returns-clause-walked : goal.returns-clause-walked
returns-clause-walked c P limit t r u before behind entries others forks failed more_forks more_failed is_cut is_more_cut =
    any_walked P limit t r u before behind entries others forks failed more_forks more_failed is_cut is_more_cut

pub returns-clause-forked : goal.returns-clause-forked
returns-clause-forked c P limit t r u before behind splits entries forks failed is_cut is_now_cut clauses =
    any_forked P limit t r u before behind splits entries forks failed is_cut is_now_cut clauses

pub returns-clause-empty : goal.returns-clause-empty
returns-clause-empty c = any_none
