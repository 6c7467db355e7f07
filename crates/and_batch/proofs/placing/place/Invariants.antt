use Rattle.std.proofs.Common.{length}
use Rattle.and_batch.proofs.Slots.{Placing}
use Rattle.and_batch.proofs.placing.place.Given as goal

abbrev pub invariant-loop-done : goal.invariant-loop-done
invariant-loop-done l = Placing l.fn.dones.items (length l.initial.slots) l.dones.items l.slots

abbrev pub decreases-loop-done : goal.decreases-loop-done
decreases-loop-done l = length l.dones.items
