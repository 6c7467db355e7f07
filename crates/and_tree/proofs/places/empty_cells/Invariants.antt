use Rattle.std.proofs.Common.{◌≡◌, None, replicate}
use Rattle.and_tree.proofs.places.empty_cells.Given as goal

abbrev pub invariant-loop-cell : goal.invariant-loop-cell
invariant-loop-cell g l = l.cells.items ≡ replicate l._cell (record { serial = 0; branch = None })
