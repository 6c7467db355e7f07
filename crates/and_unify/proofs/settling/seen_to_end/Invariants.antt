use Rattle.std.specs.Prelude.{All, length, take}
use Rattle.and_cells.specs.Ranges.{IsInRange}
use Rattle.and_unify.specs.Settling.{EndsFrom}
use Rattle.and_unify.proofs.settling.seen_to_end.Given as goal

abbrev pub invariant-loop-place : goal.invariant-loop-place
invariant-loop-place g l = record {
  seen : All (EndsFrom g.N.Naming.program l.cells l.floor) (take l.place l.bound);
  met : All (IsInRange g.N.Naming.program (length l.cells)) l.fn.met.items → All (IsInRange g.N.Naming.program (length l.cells)) l.met.items;
}
