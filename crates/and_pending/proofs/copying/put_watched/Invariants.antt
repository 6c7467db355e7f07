use Rattle.std.proofs.Common.{take}
use Rattle.and_pending.specs.Copies.{AreCopied}
use Rattle.and_pending.proofs.copying.put_watched.Given as goal

abbrev pub invariant-loop-pending : goal.invariant-loop-pending
invariant-loop-pending l = AreCopied l.from (take l.pending-index l.goals) l.fn.cells.items l.fn.list.items l.cells.items l.list.items
