use Rattle.std.proofs.Common.{◌≡◌, length}
use Rattle.std.specs.Prelude.{All}
use Rattle.and_cells.specs.Ranges.{IsInRange}
use Rattle.and_unify.proofs.settling.solved.Given as goal

abbrev pub invariant-loop-at : goal.invariant-loop-at
invariant-loop-at g l = record {
  met : All (IsInRange g.N.Naming.program (length l.fn.cells)) l.met.items;
  same : l.cells ≡ l.fn.cells;
}

abbrev pub decreases-loop-at : goal.decreases-loop-at
decreases-loop-at g l = length l.met.items
