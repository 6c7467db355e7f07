-- Rows of words as solutions of equations (Lloyd, section 4).
use Rattle.std.specs.Prelude.{ℕ, ◌<◌, ◌≡◌, List, [], length, false}
use Rattle.and_model.specs.Terms.{Term, Substitution}
use Rattle.and_model.specs.Solutions.{Equation, MostGeneral}
use Rattle.and_model.specs.Store.{is_half}
use Rattle.and_model.specs.declared.reference.Ref.{Ref}
use Rattle.and_model.specs.declared.reference.Ref.TheVariants.{Cell}
use Rattle.and_cells.specs.Ranges.{NamedProgram}
use Rattle.and_cells.specs.Seen.{word_at}
use Rattle.and_cells.specs.Meaning.{StandsFor}

-- the reference stands for some term
abbrev pub HasTerm : NamedProgram → List Ref → Ref → Type 0
HasTerm P row r = (t : Term) × StandsFor P row r t

-- each cell that is no word of a pair stands for a term
abbrev pub AllHaveTerms : NamedProgram → List Ref → Type 0
AllHaveTerms P row = (cell : ℕ) → cell < length row → is_half (word_at row cell) ≡ false → HasTerm P row (Cell cell)

-- The row is a most general solution of the equations: some such solution gives each cell the term that it stands for.
pub record IsMostGeneral (P : NamedProgram) (row : List Ref) (es : List Equation) : Type 0 where
  pub solution : Substitution
  pub most_general : MostGeneral solution es
  pub of_cells : (cell : ℕ) → cell < length row → is_half (word_at row cell) ≡ false
      → StandsFor P row (Cell cell) (solution [] cell)
