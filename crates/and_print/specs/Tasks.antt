-- What is still to be written of terms, on a stack whose top is the last of the list.
use Rattle.std.specs.Prelude.{ℕ, ◌+◌, ◌*◌, ◌≤◌, ◌≡◌, List, [], ◌∷◌, ◌++◌, length, Option, None, Some}
use Rattle.and_model.specs.Terms.{Term, Terms, variables_of, variables_in}
use Rattle.and_model.specs.Lines.{Bytes, first_seen, shown, shown_tail, shown_rest}
use Rattle.and_model.specs.declared.reference.Ref.{Ref}
use Rattle.and_cells.specs.Ranges.{NamedProgram}
use Rattle.and_print.specs.Writing.{Variable, Named}
use Rattle.and_print.specs.Roots.{Means, ArgumentsMean}
use Rattle.and_print.specs.declared.roots.Arguments.{Arguments}
use Rattle.and_print.specs.declared.tasks.Begun.{Begun}
use Rattle.and_print.specs.declared.tasks.Task.{Task}
use Rattle.and_print.specs.declared.tasks.Task.TheVariants.{Whole, Tail, Rest, Close}

-- What a task writes: a term, the tail of a list after an element with the bracket behind it, the arguments after
-- others with the bracket behind them, or the bracket of a list.
pub data Piece : Type 0 where
  whole : Term → Piece
  tail : Term → Piece
  rest : Terms → Piece
  close : Piece

abbrev pub variables_there : Piece → List Variable
variables_there (whole t) = variables_of t
variables_there (tail t) = variables_of t
variables_there (rest ts) = variables_in ts
variables_there close = []

abbrev pub piece_text : List Bytes → Piece → Named
piece_text names (whole t) vs = shown names vs t
piece_text names (tail t) vs = shown_tail names vs t ++ 93 ∷ []
piece_text names (rest ts) vs = shown_rest names vs ts
piece_text names close vs = 93 ∷ []

-- the piece that a task writes
abbrev pub TaskMeans : NamedProgram → List Ref → Task → Piece → Type 0
TaskMeans P row (Whole r) p = (t : Term) × (p ≡ whole t) × Means P row r t
TaskMeans P row (Tail r) p = (t : Term) × (p ≡ tail t) × Means P row r t
TaskMeans P row (Rest a) p = (ts : Terms) × (p ≡ rest ts) × ArgumentsMean P row a ts
TaskMeans P row Close p = p ≡ close

abbrev pub AllMean : NamedProgram → List Ref → List Task → List Piece → Type 0
AllMean P row [] [] = Unit {0}
AllMean P row [] (p ∷ ps) = ⊥
AllMean P row (k ∷ ks) [] = ⊥
AllMean P row (k ∷ ks) (p ∷ ps) = TaskMeans P row k p × AllMean P row ks ps

-- the term in hand, as the task that stands on top of all
abbrev pub in_hand : Option Ref → List Task
in_hand None = []
in_hand (Some r) = Whole r ∷ []

-- what is left of a term, as tasks: a structure on top, and the arguments after it
abbrev pub tasks_behind : Option Arguments → List Task
tasks_behind None = []
tasks_behind (Some a) = Rest a ∷ []

abbrev pub tasks_left : Option Begun → List Task
tasks_left None = []
tasks_left (Some b) = tasks_behind b.rest ++ Whole b.structure ∷ []

-- the variables of pieces from the top down, and then these
abbrev pub variables_ahead : List Piece → List Variable → List Variable
variables_ahead [] later = later
variables_ahead (p ∷ ps) later = variables_ahead ps (variables_there p ++ later)

-- the texts of pieces from the top down, and then this
abbrev pub text_ahead : List Bytes → List Variable → List Piece → Bytes → Bytes
text_ahead names vs [] later = later
text_ahead names vs (p ∷ ps) later = text_ahead names vs ps (piece_text names p vs ++ later)

-- With these pieces still ahead, the variables come to have names and the text to be put at the end of the old one,
-- whatever comes later.
pub record Owes (names : List Bytes) (pieces : List Piece) (variables : List Variable) (text : Named)
    (seen now : List Variable) (old new : Bytes) : Type 0 where
  pub seen_then : (later : List Variable) → first_seen now (variables_ahead pieces later)
      ≡ first_seen seen (variables ++ later)
  pub written_then : (later : List Variable)
      → new ++ text_ahead names (first_seen seen (variables ++ later)) pieces []
      ≡ old ++ text (first_seen seen (variables ++ later))

-- A text was begun, and these tasks are left of it. Bytes were written for each of them, but for so many.
pub record Begins (P : NamedProgram) (row : List Ref) (variables : List Variable) (text : Named)
    (seen now : List Variable) (old new : Bytes) (tasks : List Task) (more : ℕ) : Type 0 where
  pub pieces : List Piece
  pub mean : AllMean P row tasks pieces
  pub owes : Owes P.program.names pieces variables text seen now old new
  pub few : length tasks + 3 * length old ≤ 3 * length new + more

-- A text was begun, and the rest of it put on the stack, for which bytes were written.
pub record Does (P : NamedProgram) (row : List Ref) (variables : List Variable) (text : Named)
    (seen now : List Variable) (old new : Bytes) (before after : List Task) : Type 0 where
  pub tasks : List Task
  pub pieces : List Piece
  pub pushed : after ≡ before ++ tasks
  pub mean : AllMean P row tasks pieces
  pub owes : Owes P.program.names pieces variables text seen now old new
  pub few : length tasks + 3 * length old ≤ 3 * length new
