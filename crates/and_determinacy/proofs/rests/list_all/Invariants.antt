use Rattle.std.proofs.Common.{take}
use Rattle.and_determinacy.specs.Watching.{AreAllListed}
use Rattle.and_determinacy.proofs.rests.list_all.Given as goal

abbrev pub invariant-loop-cell : goal.invariant-loop-cell
invariant-loop-cell l = AreAllListed (take l.cell-index l.cells) l.fn.out.items l.out.items
