use Rattle.std.proofs.Common.{length, false}
use Rattle.std.specs.Prelude.{All}
use Rattle.and_cells.specs.Ranges.{IsInRange}
use Rattle.and_cells.specs.Ends.{Ends}
use Rattle.and_circles.specs.Following.{Suffice}
use Rattle.and_circles.proofs.following.ends_soon.Given as goal

abbrev pub invariant-loop-most : goal.invariant-loop-most
invariant-loop-most g l = record {
  in_range : IsInRange g.N.Naming.program (length l.cells) l.at;
  met : All (IsInRange g.N.Naming.program (length l.cells)) l.fn.met.items → All (IsInRange g.N.Naming.program (length l.cells)) l.met.items;
  rest : Suffice g.N.Naming.program l.cells l.floor l.visits.items (Ends g.N.Naming.program l.cells l.floor false l.at
      → Ends g.N.Naming.program l.cells l.floor false l.fn.root);
}

abbrev pub decreases-loop-most : goal.decreases-loop-most
decreases-loop-most g l = l.most
