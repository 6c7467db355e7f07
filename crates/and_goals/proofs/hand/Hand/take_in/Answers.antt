use Rattle.and_goals.proofs.Moves.{merges}
use Rattle.and_goals.proofs.hand.Hand.take_in.Goals as goal

pub absorb-requires-clause-rule : goal.absorb-requires-clause-rule
absorb-requires-clause-rule c = merges _ _ _ _ c.self.invariant.1
