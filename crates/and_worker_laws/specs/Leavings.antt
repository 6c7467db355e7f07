-- What a phase leaves of a branch: the row and the pairs that are still to be settled (this project's own).
use Rattle.std.specs.Prelude.{ℕ, ◌+◌, ◌≡◌, false, List, [], ◌++◌, length, All}
use Rattle.and_model.specs.Terms.{Path}
use Rattle.and_model.specs.Solutions.{Equation, Entails}
use Rattle.and_model.specs.Reductions.{Reduction}
use Rattle.and_model.specs.Store.{is_half}
use Rattle.and_model.specs.declared.goal.Goal.{Goal}
use Rattle.and_model.specs.declared.reference.Ref.{Ref}
use Rattle.and_cells.specs.Ranges.{NamedProgram, IsGoalInRange}
use Rattle.and_cells.specs.Rows.{IsSound}
use Rattle.and_cells.specs.Seen.{word_at}
use Rattle.and_cells.specs.Meaning.{equations_of}
use Rattle.and_branch_laws.specs.Variables.{IsVariable, EquationsSpeakOf}
use Rattle.and_branch_laws.specs.Kept.{HasFreePair, node_item_at}
use Rattle.and_worker_laws.specs.Acts.{Act, RunInCells, asked, all_added, weight_taken}
use Rattle.and_worker_laws.specs.Facts.{known_by}

-- the variable is the cell of some variable of the tree that is written down
pub record IsCellOf (P : NamedProgram) (rs : List Reduction) (v : Path × ℕ) : Type 0 where
  pub cell : v.0 ≡ []
  pub variable : Path × ℕ
  pub is : IsVariable P rs variable
  pub at : v.1 ≡ is.node + 1 + variable.1

-- The row states what the opening's cells did and what was set; the pairs follow from what was asked, and all that
-- was asked follows from them. Both speak of cells alone that stand for variables of the tree, none of which is a
-- word of a pair.
pub record IsLeftIn (P : NamedProgram) (rs : List Reduction) (used : ℕ) (cells : List Equation) (acts : List Act)
    (runs : List RunInCells)
    (row : List Ref) (pairs : List Equation) : Type 0 where
  pub long : length row ≡ used + weight_taken P.program acts
  pub sound : IsSound P row
  pub whole : (v : Path × ℕ) (i : IsVariable P rs v) → is_half (word_at row (i.node + 1 + v.1)) ≡ false
  pub states : Entails (equations_of P row) (known_by cells acts)
  pub stated_by : Entails (known_by cells acts) (equations_of P row)
  pub row_speaks : EquationsSpeakOf (IsCellOf P rs) (equations_of P row)
  pub pairs_speak : EquationsSpeakOf (IsCellOf P rs) pairs
  pub follow : Entails (asked P.program acts ++ all_added runs ++ known_by cells acts) pairs
  pub all : Entails (pairs ++ known_by cells acts) (asked P.program acts ++ all_added runs)

-- The goals that are left are in range, and the pairs of those that are arithmetic are free.
pub record AreReady (P : NamedProgram) (row : List Ref) (left : List Goal) : Type 0 where
  pub in_range : All (IsGoalInRange P (length row)) left
  pub free : All (λ (g : Goal). HasFreePair P row g (node_item_at P g)) left
