use Rattle.std.proofs.Common.{arith}
use Rattle.and_goals.proofs.Moves.{takes}
use Rattle.and_goals.proofs.hand.Other.take.Goals as goal

pub steal_as-requires-clause-takes : goal.steal_as-requires-clause-takes
steal_as-requires-clause-takes c = let one = c.self.invariant.2 in takes _ 1 _ (omega arith)
