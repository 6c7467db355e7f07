use Rattle.std.proofs.Common.{◌≡◌, ◌≤◌, take}
use Rattle.and_cells.specs.Seen.{OnlyReads}
use Rattle.and_clause_index.specs.Selecting.{IsNoCandidate}
use Rattle.and_shared_determinacy.specs.Sifting.{AreSifted}
use Rattle.and_shared_determinacy.proofs.selecting.sift.Given as goal

abbrev pub invariant-loop-clause : goal.invariant-loop-clause
invariant-loop-clause g l = record {
  cells_name : l.overlay.cells.ghost_name ≡ l.fn.overlay.cells.ghost_name;
  scratch_name : l.overlay.scratch.ghost_name ≡ l.fn.overlay.scratch.ghost_name;
  below : l.overlay.below ≡ l.fn.overlay.below;
  room : l.overlay.scratch.now.places.room ≡ l.fn.overlay.scratch.now.places.room;
  over : g.C.Cells.over l.overlay.cells.now ≡ g.C.Cells.over l.fn.overlay.cells.now;
  grew : g.C.Cells.Grew l.fn.overlay.cells.now l.overlay.cells.now;
  reads : OnlyReads (g.C.Cells.seen l.fn.overlay.cells.now) (g.C.Cells.seen l.overlay.cells.now);
  sifted : AreSifted (IsNoCandidate g.C.Cells.program (g.C.Cells.seen l.overlay.cells.now) l.node.0 l.base) (take l.clause-index l.clauses) l.out;
  fuel : l.fuel ≤ l.fn.fuel;
}
