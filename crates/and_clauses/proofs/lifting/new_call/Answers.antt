use Rattle.std.proofs.Common.{inl}
use Rattle.and_clauses.proofs.lifting.new_call.Goals as goal

pub returns-clause-put : goal.returns-clause-put
returns-clause-put c = inl (c.in_ok-node.ensures.nodes, c.in_ok-node.ensures.number)
