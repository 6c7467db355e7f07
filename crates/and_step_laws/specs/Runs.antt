-- What the steps of a branch do to its cells.
use Rattle.std.specs.Prelude.{ℕ, ℤ, suc, ◌+◌, ◌≡◌, ◌++◌, [], ◌∷◌, true, false, Some, None, List, length, Contains}
use Rattle.and_model.specs.Terms.{Path, Term, Terms, number, variables_of, is_ground, are_ground}
use Rattle.and_model.specs.Solutions.{Solvable}
use Rattle.and_model.specs.Arithmetic.{Relation, value, holds}
use Rattle.and_model.specs.Programs.{arithmetic, Arithmetic, is, compare}
use Rattle.and_model.specs.Closure.{needs}
use Rattle.and_model.specs.Stands.{term_of}
use Rattle.and_model.specs.Store.{is_half}
use Rattle.and_model.specs.declared.goal.Goal.{Goal}
use Rattle.and_model.specs.declared.reference.Ref.{Ref}
use Rattle.and_program.specs.Skeletons
use Rattle.and_program.specs.Skeletons.{NodeItem}
use Rattle.and_cells.specs.Ranges.{NamedProgram, IsGoalInRange, pair_of}
use Rattle.and_cells.specs.Rows.{IsSound}
use Rattle.and_cells.specs.Seen.{word_at, IsSetTo}
use Rattle.and_cells.specs.Meaning.{IsSettled, equations_of, shallow_cells}
use Rattle.and_branch_laws.specs.Kept.{item_at, node_item_at, HasFreePair}
use Rattle.and_branch_laws.specs.Running.{IsRead, AreRead}
use Rattle.and_branch_laws.specs.Settling.{Settled, IsWritten}
use Rattle.and_branch_laws.specs.Variables.{placed}
use Rattle.and_cells.specs.Seen.{Grows, AreFree}

-- No word that was set names this place as a cell.
abbrev pub IsUnnamed : NamedProgram → List Ref → (place : ℕ) → Type 0
IsUnnamed P row place = (by : ℕ) (r : Ref) → IsSetTo row by r → is_half r ≡ false
    → Contains (shallow_cells P r) place → ⊥

-- the pair of words of an `is` goal is named by no word
abbrev pub HasUnnamedPair : NamedProgram → List Ref → Goal → NodeItem → Type 0
HasUnnamedPair P row g (Skeletons.call n) = Unit {0}
HasUnnamedPair P row g (Skeletons.equal n m) = Unit {0}
HasUnnamedPair P row g (Skeletons.is n m pair) =
    IsUnnamed P row (pair_of P g.clause.0 g.base pair) × IsUnnamed P row (suc (pair_of P g.clause.0 g.base pair))
HasUnnamedPair P row g (Skeletons.compare r n m) = Unit {0}
HasUnnamedPair P row g Skeletons.fail = Unit {0}

-- The goal is arithmetic that can be run in the row: it is in range, no cell of its variables is a word of a pair,
-- and its own pair is free and named by no word.
pub record CanBeRun (P : NamedProgram) (row : List Ref) (g : Goal) : Type 0 where
  pub in_range : IsGoalInRange P (length row) g
  pub what : Arithmetic
  pub is_arithmetic : item_at P.program g ≡ arithmetic what
  pub whole : (v : Path × ℕ) → Contains (variables_of (term_of P.program g)) v
      → is_half (word_at row (g.base + 1 + v.1)) ≡ false
  pub free : HasFreePair P row g (node_item_at P g)
  pub unnamed : HasUnnamedPair P row g (node_item_at P g)

-- It waits: what it needs does not read as ground terms.
abbrev pub IsWaiting : NamedProgram → List Ref → Goal → Type 0
IsWaiting P row g = (a : Arithmetic) (us : Terms) → item_at P.program g ≡ arithmetic a
    → AreRead P row g.base (needs a) us
    → are_ground us ≡ true → ⊥

-- It waits for this cell: in whatever settled row it grows to while the cell is free, it waits.
abbrev pub WaitsFor : NamedProgram → List Ref → Goal → (cell : ℕ) → Type 0
WaitsFor P row g cell =
    (later : List Ref) → Grows row later → IsSound P later → IsSettled P later → AreFree later (cell ∷ [])
    → IsWaiting P later g

-- HasRun P old new g: the goal was run. A comparison holds, and the row stays. A value was written into the goal's
-- pair, and settled with its left side.
pub data HasRun (P : NamedProgram) (old new : List Ref) (g : Goal) : Type 0 where
  compared : (r : Relation) (a b u v : Term) → item_at P.program g ≡ arithmetic (compare r a b)
      → IsRead P old g.base a u → IsRead P old g.base b v → is_ground u ≡ true → is_ground v ≡ true → holds r u v ≡ true
      → new ≡ old → HasRun P old new g
  assigned : (l r u : Term) (z : ℤ) (left right pair : ℕ) (written : List Ref)
      → item_at P.program g ≡ arithmetic (is l r)
      → node_item_at P g ≡ Skeletons.is left right pair
      → IsRead P old g.base r u → is_ground u ≡ true → value u ≡ Some z → IsSound P written
      → IsWritten old written (pair_of P g.clause.0 g.base pair) z
      → Settled P written new ((placed g.base l, number z) ∷ [])
      → HasRun P old new g

-- CannotHold P row g: the goal is ground and false, or without a value, or its value has no solution with its left
-- side.
pub data CannotHold (P : NamedProgram) (row : List Ref) (g : Goal) : Type 0 where
  compared : (r : Relation) (a b u v : Term) → item_at P.program g ≡ arithmetic (compare r a b)
      → IsRead P row g.base a u → IsRead P row g.base b v → is_ground u ≡ true → is_ground v ≡ true
      → holds r u v ≡ false
      → CannotHold P row g
  no_value : (l r u : Term) → item_at P.program g ≡ arithmetic (is l r) → IsRead P row g.base r u → is_ground u ≡ true
      → value u ≡ None → CannotHold P row g
  assigned : (l r u : Term) (z : ℤ) (left right pair : ℕ) (written : List Ref)
      → item_at P.program g ≡ arithmetic (is l r)
      → node_item_at P g ≡ Skeletons.is left right pair
      → IsRead P row g.base r u → is_ground u ≡ true → value u ≡ Some z → IsSound P written
      → IsWritten row written (pair_of P g.clause.0 g.base pair) z
      → (Solvable (equations_of P written ++ (placed g.base l, number z) ∷ []) → ⊥) → CannotHold P row g
