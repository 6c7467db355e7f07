use Rattle.std.proofs.Common.{ℕ, ◌≡◌, ◌≤◌, ◌++◌, List, length}
use Rattle.std.specs.Prelude.{All}
use Rattle.and_determinacy.specs.Watching.{IsWatched, Suffice}
use Rattle.and_determinacy.proofs.watching.gather.Given as goal

abbrev pub invariant-loop-left : goal.invariant-loop-left
invariant-loop-left g l = record {
  low : l.begun ≤ length l.out.items;
  gained : (gained : List ℕ) × (l.out.items ≡ l.fn.out.items ++ gained);
  rest : Suffice g.N.Naming.program l.cells l.floor l.begun l.out.items l.visits.items
      (λ (cells : List ℕ). All (IsWatched g.N.Naming.program l.cells l.floor cells) l.fn.visits.items);
}

abbrev pub decreases-loop-left : goal.decreases-loop-left
decreases-loop-left g l = l.left
