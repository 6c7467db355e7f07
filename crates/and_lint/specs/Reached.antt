-- To which clauses a chain of calls leads.
use Rattle.std.specs.Prelude.{ℕ, ◌≤◌, ◌≡◌, ◌↔◌, Bool, true, length, Contains}
use Rattle.and_model.specs.Terms.{Term}
use Rattle.and_model.specs.Programs.{Program, call, clause_at, Of}

-- A chain of calls leads from the query to the clause: it is the query, or a clause of the predicate of a call that
-- stands in the body of such a clause.
pub data IsReached (P : Program) : (clause : ℕ) → Type 0 where
  query : IsReached P 0
  called : (c d : ℕ) (goal : Term) → IsReached P c → Contains (clause_at P c).body (call goal) → Of P goal d
      → IsReached P d

-- the test says of each clause and the query whether a chain of calls leads to it
abbrev pub TellsReached : Program → (ℕ → Bool) → Type 0
TellsReached P reached = (c : ℕ) → c ≤ length P.clauses → reached c ≡ true ↔ IsReached P c
