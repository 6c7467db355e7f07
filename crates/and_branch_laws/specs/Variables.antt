-- The variables of a tree that is written down, and names for them among cells.
use Rattle.std.specs.Prelude.{ℕ, ◌+◌, ◌<◌, ◌≡◌, false, List, [], ◌∷◌, length, Contains}
use Rattle.and_model.specs.Terms.{Path, Term, variables_of, Substitution, apply}
use Rattle.and_model.specs.Solutions.{Equation}
use Rattle.and_model.specs.Programs.{Arithmetic, is, compare, clause_at}
use Rattle.and_model.specs.Reductions.{Reduction, PlaceHas}
use Rattle.and_model.specs.Stands.{ClauseHas}
use Rattle.and_model.specs.Store.{is_half}
use Rattle.and_model.specs.declared.reference.Ref.{Ref}
use Rattle.and_cells.specs.Ranges.{NamedProgram}
use Rattle.and_cells.specs.Seen.{word_at}
use Rattle.and_cells.specs.Meaning.{cell_variable}

-- All variables of the term are so.
abbrev pub SpeaksOf : (Path × ℕ → Type 0) → Term → Type 0
SpeaksOf V t = (v : Path × ℕ) → Contains (variables_of t) v → V v

-- all variables of the equations are so,
abbrev pub EquationsSpeakOf : (Path × ℕ → Type 0) → List Equation → Type 0
EquationsSpeakOf V [] = Unit {0}
EquationsSpeakOf V (e ∷ es) = SpeaksOf V e.0 × SpeaksOf V e.1 × EquationsSpeakOf V es

-- and all of a goal of arithmetic
abbrev pub ArithmeticSpeaksOf : (Path × ℕ → Type 0) → Arithmetic → Type 0
ArithmeticSpeaksOf V (is l r) = SpeaksOf V l × SpeaksOf V r
ArithmeticSpeaksOf V (compare r a b) = SpeaksOf V a × SpeaksOf V b

-- The variable is the clause's own at some place of the tree that is written down, in the frame of the place's path.
pub record IsVariable (P : NamedProgram) (rs : List Reduction) (v : Path × ℕ) : Type 0 where
  pub node : ℕ
  pub clause : ℕ
  pub place : PlaceHas rs node v.0
  pub clause_is : ClauseHas rs node clause
  pub own : v.1 < (clause_at P.program clause).variables

-- the variables of a clause as the cells of a frame that begins at the base
abbrev pub cells_from : (base : ℕ) → Substitution
cells_from base = λ q k. cell_variable (base + 1 + k)

-- a term of a clause, in the cells of that frame
abbrev pub placed : (base : ℕ) → Term → Term
placed base t = apply (cells_from base) t

-- The variables of the frame at each place are named by the cells of the frame that begins at the place's number.
abbrev pub AreNames : List Reduction → Substitution → Type 0
AreNames rs names = (node : ℕ) (q : Path) → PlaceHas rs node q → (k : ℕ) → names q k ≡ cell_variable (node + 1 + k)

-- the variable is a cell of the row, and no word of a pair
abbrev pub IsWholeCell : List Ref → Path × ℕ → Type 0
IsWholeCell row v = (v.0 ≡ []) × (v.1 < length row) × (is_half (word_at row v.1) ≡ false)
