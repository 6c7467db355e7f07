-- The cells of a row that are variables of clauses' frames, and what names them alone (this project's own).
use Rattle.std.specs.Prelude.{ℕ, ◌+◌, ◌<◌, ◌≡◌, ◌≢◌, false, List, ◌∷◌, length, get_or, map, All, Contains}
use Rattle.and_model.specs.Terms.{Term, variables_of}
use Rattle.and_model.specs.Programs.{Program, clause_at}
use Rattle.and_model.specs.Store.{is_half}
use Rattle.and_model.specs.declared.goal.Reduction.{Reduction}
use Rattle.and_model.specs.declared.reference.Ref.{Ref}
use Rattle.and_model.specs.declared.reference.Ref.TheVariants.{Free}
use Rattle.and_program.specs.Skeletons.{Shape, node_term}
use Rattle.and_cells.specs.Meaning.{shallow_cells}
use Rattle.and_cells.specs.Ranges.{NamedProgram, IsInRange}
use Rattle.and_cells.specs.Rows.{IsSound, plain}
use Rattle.and_cells.specs.Seen.{word_at, IsWrittenIfNumber}
use Rattle.and_model.specs.declared.goal.Frame.{Frame}
use Rattle.and_unify.specs.declared.pairs.Pair.{Pair}

-- The numbers of the term's variables are below this.
abbrev pub AreBelow : (span : ℕ) → Term → Type 0
AreBelow span t = All (λ v. v.1 < span) (variables_of t)

-- For each node as far as the list goes, the numbers of its variables are below what stands there.
abbrev pub AreSpans : List Shape → List ℕ → Type 0
AreSpans ss spans = (node d : ℕ) → node < length spans → AreBelow (get_or spans node d) (node_term ss node)

-- The cell is that of a variable of the frame's clause.
pub record IsVariableOf (P : Program) (f : Frame) (cell : ℕ) : Type 0 where
  pub variable : ℕ
  pub among : variable < (clause_at P f.clause.0).variables
  pub at : cell ≡ f.base + 1 + variable

-- It is the cell of a variable of one of these frames.
pub record IsVariableCell (P : Program) (frames : List Frame) (cell : ℕ) : Type 0 where
  pub frame : Frame
  pub one : Contains frames frame
  pub of_it : IsVariableOf P frame cell

-- the frame of a reduction's clause, and all frames of a tree: that of the query comes first
abbrev pub frame_of : Reduction → Frame
frame_of r = record { base = r.node; clause = r.clause }

abbrev pub all_frames : List Reduction → List Frame
all_frames rs = record { base = 0; clause = record { 0 = 0 } } ∷ map frame_of rs

-- No cell of a variable of the frame's clause is a word of a pair.
abbrev pub IsWholeFrame : Program → List Ref → Frame → Type 0
IsWholeFrame P row f = (cell : ℕ) → IsVariableOf P f cell → is_half (word_at row cell) ≡ false

-- All cells that the reference names are those of variables of these frames.
abbrev pub NamesVariables : NamedProgram → List Frame → Ref → Type 0
NamesVariables P frames r = All (IsVariableCell P.program frames) (shallow_cells P r)

-- A word that is set, and no half, stands in a variable's cell and names such cells alone.
abbrev pub IsInPlace : NamedProgram → List Frame → (place : ℕ) → Ref → Type 0
IsInPlace P frames place r = r ≢ Free → is_half r ≡ false
    → IsVariableCell P.program frames place × NamesVariables P frames r

-- The row is sound, the frames are whole, and each word is in its place.
pub record IsWhole (P : NamedProgram) (frames : List Frame) (row : List Ref) : Type 0 where
  pub sound : IsSound P row
  pub whole : All (IsWholeFrame P.program row) frames
  pub in_place : (place : ℕ) → place < length row → IsInPlace P frames place (word_at row place)

-- A side of a pair is in range, names cells of variables alone, and is written if it is a number.
pub record IsSideWhole (P : NamedProgram) (frames : List Frame) (row : List Ref) (side : Ref) : Type 0 where
  pub in_range : IsInRange P (length row) side
  pub names : NamesVariables P frames side
  pub written : IsWrittenIfNumber (plain row) side

-- Both sides of each pair are.
abbrev pub ArePairsWhole : NamedProgram → List Frame → List Ref → List Pair → Type 0
ArePairsWhole P frames row pairs =
    All (λ (p : Pair). IsSideWhole P frames row p.left × IsSideWhole P frames row p.right) pairs
