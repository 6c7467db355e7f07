use Rattle.std.proofs.Common.{ℕ, ◌≡◌, ◌<◌, false}
use Rattle.and_model.specs.Store.{is_half}
use Rattle.and_model.specs.declared.reference.Ref.TheVariants.{Cell}
use Rattle.and_cells.specs.Seen.{word_at}
use Rattle.and_circles.specs.Explored.{AreFinished}
use Rattle.and_cells.specs.Ends.{Ends}
use Rattle.and_unify.proofs.settling.row_ends.Given as goal

abbrev pub invariant-loop-cell : goal.invariant-loop-cell
invariant-loop-cell g l = record {
  finished : AreFinished g.N.Naming.program l.cells l.explorer;
  floor : l.explorer.floor ≡ l.initial.explorer.floor;
  no_halves : l.explorer.halves ≡ l.initial.explorer.halves;
  ends : (k : ℕ) → k < l.cell → is_half (word_at l.cells k) ≡ false → Ends g.N.Naming.program l.cells l.initial.explorer.floor false (Cell k);
}
