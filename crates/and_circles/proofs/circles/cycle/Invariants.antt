use Rattle.std.proofs.Common.{ℕ, ◌≡◌, ◌<◌, true}
use Rattle.and_model.specs.declared.reference.Ref.TheVariants.{Cell}
use Rattle.and_cells.specs.Ends.{Ends}
use Rattle.and_circles.specs.Explored.{AreFinished}
use Rattle.and_circles.proofs.circles.cycle.Given as goal

abbrev pub invariant-loop-cell : goal.invariant-loop-cell
invariant-loop-cell g l = record {
  finished : AreFinished g.N.Naming.program l.cells l.explorer;
  floor : l.explorer.floor ≡ 0;
  halves : l.explorer.halves ≡ true;
  before : (k : ℕ) → k < l.cell → Ends g.N.Naming.program l.cells 0 true (Cell k);
}
