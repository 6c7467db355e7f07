use Rattle.std.proofs.Common.{ap}
use Rattle.and_program.specs.Items.{node_item}
use Rattle.and_clause_index.proofs.table.Determinacy.add_item.Goals as goal

pub add_call-requires-clause-node : goal.add_call-requires-clause-node
add_call-requires-clause-node c = c.requires.node c.in-Call.goal.0 (ap node_item c.in-Call.is)
