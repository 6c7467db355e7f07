use Rattle.and_goals.proofs.Moves.{puts}
use Rattle.and_goals.proofs.hand.Hand.put.Goals as goal

pub push_as-requires-clause-pushes : goal.push_as-requires-clause-pushes
push_as-requires-clause-pushes c = puts _ _ _ c.self.invariant.1
