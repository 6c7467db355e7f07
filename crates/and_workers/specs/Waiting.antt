-- Goals that wait for cells, and what looks at these cells found (this project's own).
use Rattle.std.specs.Prelude.{ℕ, List, [], ◌∷◌, IsPermutation}
use Rattle.and_model.specs.declared.goal.Goal.{Goal}
use Rattle.and_model.specs.declared.reference.Ref.{Ref}
use Rattle.and_cells.specs.Ranges.{NamedProgram}
use Rattle.and_cells.specs.Seen.{Seen, OnlyReads, Misses, Finds}

-- a goal, and the cell for which it waits
pub record Waiting : Type 0 where
  pub goal : Goal
  pub cell : ℕ

abbrev pub waiting_for : Goal → (cell : ℕ) → Waiting
waiting_for goal cell = record { goal = goal; cell = cell }

-- each goal with the cell at the same place
abbrev pub waiting : List Goal → (cells : List ℕ) → List Waiting
waiting [] cells = []
waiting (g ∷ gs) [] = []
waiting (g ∷ gs) (c ∷ cs) = waiting_for g c ∷ waiting gs cs

-- one of these steps was a look that found the cell free
pub record LookedFree (shared cell : ℕ) (old new : Seen) : Type 0 where
  pub before : Seen
  pub after : Seen
  pub reads : OnlyReads old before
  pub misses : Misses shared cell before after
  pub reads_on : OnlyReads after new

-- the last of these steps was a look that found the cell set
pub record LookedSet (P : NamedProgram) (cell : ℕ) (old new : Seen) : Type 0 where
  pub before : Seen
  pub value : Ref
  pub reads : OnlyReads old before
  pub finds : Finds P cell value before new

-- This goal was taken out, and no other: the last of these steps was a look that found its cell set.
pub record Wakes (P : NamedProgram) (goal : Goal) (was is : List Waiting) (old new : Seen) : Type 0 where
  pub cell : ℕ
  pub taken : IsPermutation was (waiting_for goal cell ∷ is)
  pub set : LookedSet P cell old new
