use Rattle.and_goals.proofs.Moves.{takes}
use Rattle.and_goals.proofs.deque.move_one.Goals as goal

pub pop_as-requires-clause-fifo : goal.pop_as-requires-clause-fifo
pop_as-requires-clause-fifo c = λ fifo. takes _ 1 _ c.requires.part
