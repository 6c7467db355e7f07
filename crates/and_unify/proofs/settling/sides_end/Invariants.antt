use Rattle.std.proofs.Common.{ℕ, ◌≡◌, ◌<◌, false, get_or}
use Rattle.and_circles.specs.Explored.{AreFinished}
use Rattle.and_cells.specs.Ends.{Ends}
use Rattle.and_unify.specs.declared.pairs.Pair.{Pair}
use Rattle.and_unify.proofs.settling.sides_end.Given as goal

abbrev pub invariant-loop-place : goal.invariant-loop-place
invariant-loop-place g l = record {
  finished : AreFinished g.N.Naming.program l.cells l.explorer;
  floor : l.explorer.floor ≡ l.initial.explorer.floor;
  no_halves : l.explorer.halves ≡ false;
  ends : (k : ℕ) (p : Pair) → k < l.place
      → Ends g.N.Naming.program l.cells l.initial.explorer.floor false (get_or l.pairs k p).left
      × Ends g.N.Naming.program l.cells l.initial.explorer.floor false (get_or l.pairs k p).right;
}
