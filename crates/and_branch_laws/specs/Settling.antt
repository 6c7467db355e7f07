-- Rows to which equations were added.
use Rattle.std.specs.Prelude.{ℕ, ℤ, suc, ◌≡◌, ◌≢◌, ◌++◌, true, List, length, replicate}
use Rattle.and_model.specs.Solutions.{Equation}
use Rattle.and_model.specs.Store.{is_half}
use Rattle.and_model.specs.declared.reference.Ref.{Ref}
use Rattle.and_model.specs.declared.reference.Ref.TheVariants.{Free}
use Rattle.and_cells.specs.Ranges.{NamedProgram}
use Rattle.and_cells.specs.Rows.{IsSound, plain}
use Rattle.and_cells.specs.Numbers.{number_of, high_half, low_half}
use Rattle.and_cells.specs.Seen.{word_at, Keeps}
use Rattle.and_cells.specs.Meaning.{IsSettled, equations_of}
use Rattle.and_cells.specs.Solved.{IsMostGeneral}

-- the row with so many free words behind it
abbrev pub widened : List Ref → (by : ℕ) → List Ref
widened row by = row ++ replicate by Free

-- Settled P old new es: from the old row and the equations the new row was settled, as unification promises it where
-- it finds a solution. What was set stays, and no further cell is a word of a pair.
pub record Settled (P : NamedProgram) (old new : List Ref) (es : List Equation) : Type 0 where
  pub solved : IsMostGeneral P new (equations_of P old ++ es)
  pub sound : IsSound P new
  pub settled : IsSettled P new
  pub keeps : Keeps (plain old) (plain new)
  pub halves : (cell : ℕ) → is_half (word_at new cell) ≡ true → is_half (word_at old cell) ≡ true

-- A number was written into a pair of words, and nothing else.
pub record IsWritten (old new : List Ref) (pair : ℕ) (z : ℤ) : Type 0 where
  pub long : length new ≡ length old
  pub high : word_at new pair ≡ high_half z
  pub low : word_at new (suc pair) ≡ low_half z
  pub others : (place : ℕ) → place ≢ pair → place ≢ suc pair → word_at new place ≡ word_at old place
  pub holds : number_of (high_half z) (low_half z) ≡ z
