use Rattle.std.proofs.Common.{ℕ, ◌≡◌, ◌<◌, false, get_or}
use Rattle.and_model.specs.Store.{is_half}
use Rattle.and_model.specs.declared.reference.Ref.TheVariants.{Cell}
use Rattle.and_cells.specs.Seen.{word_at}
use Rattle.and_circles.specs.Explored.{AreFinished}
use Rattle.and_cells.specs.Ends.{Ends}
use Rattle.and_unify.proofs.settling.explored_end.Given as goal

abbrev pub invariant-loop-cell : goal.invariant-loop-cell
invariant-loop-cell g l = record {
  finished : AreFinished g.N.Naming.program l.cells l.explorer;
  floor : l.explorer.floor ≡ l.floor;
  no_halves : l.explorer.halves ≡ false;
  ends : (k cell : ℕ) → k < l.cell-index → get_or l.bound k cell ≡ cell → cell < l.end
      → is_half (word_at l.cells cell) ≡ false → Ends g.N.Naming.program l.cells l.floor false (Cell cell);
}
