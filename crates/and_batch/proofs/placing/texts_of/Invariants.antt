use Rattle.std.proofs.Common.{length}
use Rattle.and_batch.proofs.Slots.{TakenFrom}
use Rattle.and_batch.proofs.placing.texts_of.Given as goal

abbrev pub invariant-loop-slot : goal.invariant-loop-slot
invariant-loop-slot l = TakenFrom l.fn.slots.items l.slots.items l.texts.items

abbrev pub decreases-loop-slot : goal.decreases-loop-slot
decreases-loop-slot l = length l.slots.items
