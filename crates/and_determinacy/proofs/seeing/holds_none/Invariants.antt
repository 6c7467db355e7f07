use Rattle.std.proofs.Common.{ℕ, List, [], ◌∷◌, length}
use Rattle.and_determinacy.specs.Seeing.{HoldNone, IsPart}
use Rattle.and_determinacy.proofs.seeing.holds_none.Given as goal

abbrev pub invariant-loop-turn : goal.invariant-loop-turn
invariant-loop-turn g l = record {
  part : IsPart g.N.Naming.program (length l.cells) l.at;
  owed : (has : List ℕ) → HoldNone g.N.Naming.program l.cells l.held.items has (l.at ∷ [])
      → HoldNone g.N.Naming.program l.cells l.fn.held.items has (l.fn.part ∷ []);
}
