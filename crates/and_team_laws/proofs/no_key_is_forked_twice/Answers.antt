use Rattle.and_team_laws.proofs.Agreeing.{some_order}
use Rattle.and_team_laws.proofs.ForkedOnce.{forked_once}
use Rattle.and_team_laws.proofs.no_key_is_forked_twice.Goals as goal

pub returns-clause-once : goal.returns-clause-once
returns-clause-once c = forked_once

pub returns-clause-order : goal.returns-clause-order
returns-clause-order c = some_order
