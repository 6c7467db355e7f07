use Rattle.std.proofs.Common.{take}
use Rattle.and_cells.specs.Seen.{AreFree}
use Rattle.and_pending.proofs.watch.all_free.Given as goal

abbrev pub invariant-loop-cell : goal.invariant-loop-cell
invariant-loop-cell g l = AreFree l.cells (take l.cell-index l.which)
