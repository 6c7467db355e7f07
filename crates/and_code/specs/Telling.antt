-- Codes that are told on, as reductions are made.
use Rattle.std.specs.Prelude.{ℕ, List, [], ◌∷◌, ◌++◌, take}
use Rattle.and_model.specs.Programs.{Program}
use Rattle.and_model.specs.Reductions.{Reduction}
use Rattle.and_branch_laws.specs.Visits
use Rattle.and_branch_laws.specs.Visits.{Decides, at_query}
use Rattle.and_code.specs.Visiting.{AreAtCalls, waiting}
use Rattle.and_code.specs.declared.telling.CodeSoFar.{CodeSoFar}

-- the bodies that are still to be gone through
abbrev pub left_of : CodeSoFar → List Visits.Visit
left_of t = waiting t.visits.items t.next

-- The clauses of the code were told: whatever reductions come behind these, what the bodies that are left decide comes
-- behind the code.
pub record IsToldTo (P : Program) (rs : List Reduction) (left : List Visits.Visit) (code : List ℕ) : Type 0 where
  pub calls : AreAtCalls P left
  pub goes_on : (more : List Reduction) (cs : List ℕ) → Decides P (rs ++ more) left cs
      → Decides P (rs ++ more) (at_query ∷ []) (code ++ cs)

-- So far the beginning of the code was told of these reductions.
abbrev pub IsTold : Program → List Reduction → CodeSoFar → (code : List ℕ) → Type 0
IsTold P rs t code = IsToldTo P rs (left_of t) (take t.length code)
