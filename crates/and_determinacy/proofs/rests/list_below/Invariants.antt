use Rattle.std.proofs.Common.{take}
use Rattle.and_determinacy.specs.Watching.{AreListed}
use Rattle.and_determinacy.proofs.rests.list_below.Given as goal

abbrev pub invariant-loop-cell : goal.invariant-loop-cell
invariant-loop-cell g l = AreListed g.N.Naming.program l.cells (take l.cell-index l.bound) l.floor l.visits.items l.fn.out.items l.out.items
