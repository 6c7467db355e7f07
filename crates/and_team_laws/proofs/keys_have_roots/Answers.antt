use Rattle.and_team_laws.proofs.Roots.{from_query, from_split}
use Rattle.and_team_laws.proofs.keys_have_roots.Goals as goal

pub returns-clause-query : goal.returns-clause-query
returns-clause-query c = from_query

pub returns-clause-splits : goal.returns-clause-splits
returns-clause-splits c P limit key t clauses is_cut reached fork = from_split P limit key t reached
