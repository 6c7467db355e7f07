use Rattle.and_team_laws.proofs.Listed.{any_order_once, any_order_listing}
use Rattle.and_team_laws.proofs.any_order_lists.Goals as goal

pub returns-clause-once : goal.returns-clause-once
returns-clause-once c P limit all entries f m b w same = any_order_once P limit all entries f m b w same

pub returns-clause-listing : goal.returns-clause-listing
returns-clause-listing c P limit all entries f m b w same = any_order_listing P limit all entries f m b w same
