use Rattle.std.proofs.Common.{◌≡◌, length}
use Rattle.and_term_rows.proofs.cells.chain.Given as goal

abbrev pub invariant-loop-cell : goal.invariant-loop-cell
invariant-loop-cell g l = length l.cells ≡ 100000
