-- Goals that are watched: nothing need be done for them as long as certain cells are free (this project's own).
use Rattle.std.specs.Prelude.{ℕ, ◌≡◌, ◌≢◌, List, [], ◌∷◌, Option, None, Some}
use Rattle.and_model.specs.Terms.{Term}
use Rattle.and_model.specs.Programs.{call}
use Rattle.and_model.specs.declared.goal.Goal.{Goal}
use Rattle.and_model.specs.declared.reference.Ref.{Ref}
use Rattle.and_cells.specs.Meaning.{IsSettled}
use Rattle.and_cells.specs.Ranges.{NamedProgram}
use Rattle.and_cells.specs.Rows.{IsSound}
use Rattle.and_branch_laws.specs.Judging.{CandidateInCells}
use Rattle.and_branch_laws.specs.Kept.{item_at}
use Rattle.and_reduction.specs.Runs.{IsWaiting}
use Rattle.and_cells.specs.Seen.{Grows, AreFree}
use Rattle.and_pending.specs.Pending as pending

-- A goal that is watched, and the cells that are.
pub record Watched : Type 0 where
  pub goal : Goal
  pub cells : List ℕ

-- the first of these is watched,
abbrev pub with_watched : Goal → Option (List ℕ) → List Watched → List Watched
with_watched g None ws = ws
with_watched g (Some cells) ws = record { goal = g; cells = cells } ∷ ws

-- and so are these
abbrev pub all_watched : List pending.Watched → List Watched
all_watched [] = []
all_watched (p ∷ ps) = with_watched p.goal p.cells (all_watched ps)

-- A goal has two candidates.
abbrev pub HasTwo : NamedProgram → List Ref → Goal → Type 0
HasTwo P row g = (c : ℕ) × (d : ℕ) × (c ≢ d) × CandidateInCells P row g c × CandidateInCells P row g d

-- In this row nothing is to be done for the goal: it is arithmetic that waits, or a call of two candidates.
pub record Sleeps (P : NamedProgram) (row : List Ref) (g : Goal) : Type 0 where
  pub waits : IsWaiting P row g
  pub several : (term : Term) → item_at P.program g ≡ call term → HasTwo P row g

-- So it is in whatever settled row this one grows to, as long as the cells that are watched are free.
pub record IsAsleep (P : NamedProgram) (row : List Ref) (w : Watched) : Type 0 where
  pub while_free : (later : List Ref) → Grows row later → IsSound P later → IsSettled P later → AreFree later w.cells
      → Sleeps P later w.goal
