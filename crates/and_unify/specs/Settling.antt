-- Rows to which frames were added, and what settling comes to.
use Rattle.std.specs.Prelude.{ℕ, ◌<◌, ◌≤◌, ◌≡◌, ◌⊎◌, ◌++◌, true, false, List, length, All}
use Rattle.and_model.specs.Solutions.{Equation, Solvable}
use Rattle.and_model.specs.Store.{is_half}
use Rattle.and_model.specs.declared.reference.Ref.{Ref}
use Rattle.and_model.specs.declared.reference.Ref.TheVariants.{Free, Cell}
use Rattle.and_cells.specs.Ranges.{NamedProgram}
use Rattle.and_cells.specs.Rows.{plain}
use Rattle.and_cells.specs.Seen.{word_at, IsSetTo, Keeps}
use Rattle.and_cells.specs.Meaning.{IsSettled, shallow_cells, equations_of}
use Rattle.and_cells.specs.Ends.{IsBelow, Ends}
use Rattle.and_cells.specs.Solved.{IsMostGeneral}
use Rattle.and_unify.specs.declared.pairs.Pair.{Pair}
use Rattle.and_unify.specs.declared.settling.Settled.{Settled}
use Rattle.and_unify.specs.declared.settling.Settled.TheVariants.{Solved, NoSolution}
use Rattle.and_unify.specs.Pairs.{equations_of_pairs}
use Rattle.and_unify.specs.Places.{sides, IsPlace}

-- the equations of a row and of pairs
abbrev pub equations_with : NamedProgram → List Ref → List Pair → List Equation
equations_with P row pairs = equations_of P row ++ equations_of_pairs P (word_at row) pairs

-- the cells that a reference names are below this one
abbrev pub NamesBelow : NamedProgram → (floor : ℕ) → Ref → Type 0
NamesBelow P floor r = All (λ (cell : ℕ). cell < floor) (shallow_cells P r)

-- no frame goes across the floor: what lies below it names cells below it
abbrev pub KeepsBelow : NamedProgram → (floor : ℕ) → Ref → Type 0
KeepsBelow P floor r = IsBelow floor r → NamesBelow P floor r

-- The words from the floor on are new: they are free, no word that was set names one of them, and the sides of the
-- pairs lie on one side of the floor.
pub record AreNewFrom (P : NamedProgram) (row : List Ref) (pairs : List Pair) (floor : ℕ) : Type 0 where
  pub within : floor ≤ length row
  pub free : (cell : ℕ) → floor ≤ cell → word_at row cell ≡ Free
  pub named_below : (cell : ℕ) (r : Ref) → IsSetTo row cell r → NamesBelow P floor r
  pub sides : All (λ (p : Pair). KeepsBelow P floor p.left × KeepsBelow P floor p.right) pairs

-- Each path from the cell ends: from one below the floor to any, and from others where it comes below the floor, if
-- not before.
abbrev pub EndsFrom : NamedProgram → List Ref → (floor cell : ℕ) → Type 0
EndsFrom P row floor cell = (cell < floor → Ends P row 0 false (Cell cell))
    × (floor ≤ cell → Ends P row floor false (Cell cell))

-- What settling comes to, from what the cells were and the pairs.
pub record Settles (P : NamedProgram) (old new : List Ref) (pairs : List Pair) (answer : Settled) : Type 0 where
  -- The cells are a most general solution of both, and are settled.
  pub solved : answer ≡ Solved → IsMostGeneral P new (equations_with P old pairs)
  pub settled : answer ≡ Solved → IsSettled P new
  pub no_solution : answer ≡ NoSolution → Solvable (equations_with P old pairs) → ⊥
  -- What was set stays, and no further cell is a word of a pair.
  pub keeps : Keeps (plain old) (plain new)
  pub halves : (cell : ℕ) → is_half (word_at new cell) ≡ true → is_half (word_at old cell) ≡ true

-- Each word that is set was set so before, or is something to which the words of the row and the sides of the pairs
-- led.
pub record SetsPlaces (P : NamedProgram) (old new : List Ref) (pairs : List Pair) : Type 0 where
  pub each : (cell : ℕ) (r : Ref) → IsSetTo new cell r
      → IsSetTo old cell r ⊎ IsPlace P (plain old) (sides pairs) r
