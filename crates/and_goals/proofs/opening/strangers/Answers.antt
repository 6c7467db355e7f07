use Rattle.and_goals.proofs.Sums.{strangers_dealt}
use Rattle.and_goals.proofs.opening.strangers.Goals as goal

pub returns-clause-dealt : goal.returns-clause-dealt
returns-clause-dealt c = strangers_dealt c.loop.hands.items c.loop.invariant.strangers
