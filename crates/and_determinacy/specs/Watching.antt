-- What is judged of a goal while some cells are free.
use Rattle.std.specs.Prelude.{ℕ, ◌≡◌, ◌≢◌, ◌<◌, ◌++◌, ◌⊎◌, ◌∷◌, [], List, length, drop, map, All, Contains}
use Rattle.std.specs.Prelude.{Bool, true, false, Option, Some, None}
use Rattle.and_model.specs.Terms.{Term}
use Rattle.and_model.specs.Candidates.{Candidate}
use Rattle.and_model.specs.Stands.{term_of}
use Rattle.and_model.specs.declared.goal.Goal.{Goal}
use Rattle.and_model.specs.declared.reference.Ref.{Ref}
use Rattle.and_model.specs.declared.reference.Ref.TheVariants.{Free, Cell}
use Rattle.and_cells.specs.Ranges.{NamedProgram, IsInRange}
use Rattle.and_cells.specs.Parts.{part_at, parts_of}
use Rattle.and_cells.specs.Rows.{IsSound}
use Rattle.and_cells.specs.Seen.{word_at, Grows, AreFree}
use Rattle.and_cells.specs.Meaning.{IsSettled, Holds, equations_of}
use Rattle.and_branch_laws.specs.Judging.{CandidateInCells, outside}
use Rattle.and_branch_laws.specs.Variables.{placed}

-- What a goal can be taken by rests on these cells: in whatever settled row it grows to while they are free, each
-- candidate of the goal is one still.
abbrev pub RestsOn : NamedProgram → List Ref → Goal → List ℕ → Type 0
RestsOn P row g cells =
    (later : List Ref) → Grows row later → IsSound P later → IsSettled P later → AreFree later cells
    → (c : ℕ) → CandidateInCells P row g c → CandidateInCells P later g c

-- The clause is a candidate of a call, read in the frame at the base, in whatever settled row this one grows to while
-- these cells are free.
abbrev pub StaysWhile : NamedProgram → List Ref → (base : ℕ) → Term → List ℕ → ℕ → Type 0
StaysWhile P row base call cells c =
    (later : List Ref) → Grows row later → IsSound P later → IsSettled P later → AreFree later cells
    → Candidate P.program (equations_of P later) outside (placed base call) c

-- Two clauses are.
abbrev pub TwoStayWhile : NamedProgram → List Ref → Goal → List ℕ → Type 0
TwoStayWhile P row g cells =
    (c : ℕ) × (d : ℕ) × (c ≢ d) × StaysWhile P row g.base (term_of P.program g) cells c
    × StaysWhile P row g.base (term_of P.program g) cells d

-- ---- While they are gathered

-- Each free cell below the floor that the term of a reference holds is among these.
abbrev pub IsWatched : NamedProgram → List Ref → (floor : ℕ) → List ℕ → Ref → Type 0
IsWatched P row floor cells r = (cell : ℕ) → Holds P row r cell → word_at row cell ≡ Free → cell < floor
    → Contains cells cell

-- These are in range, and where what they hold is watched, with the cells of a list from a place on, the goal holds.
pub record Suffice (P : NamedProgram) (row : List Ref) (floor begun : ℕ) (listed : List ℕ) (rest : List Ref)
    (goal : List ℕ → Type 0) : Type 0 where
  pub in_range : All (IsInRange P (length row)) rest
  pub owes : (cells : List ℕ) → ((cell : ℕ) → Contains (drop begun listed) cell → Contains cells cell)
      → All (IsWatched P row floor cells) rest → goal cells

-- The list has the cell from a place on, and may be longer than it was.
pub record IsListed (cell begun : ℕ) (old new : List ℕ) : Type 0 where
  pub gained : List ℕ
  pub longer : new ≡ old ++ gained
  pub there : Contains (drop begun new) cell

-- What is to be watched at a place was listed or put on the list of visits.
pub record IsFollowed (P : NamedProgram) (row : List Ref) (floor begun : ℕ) (at : Ref) (old new : List Ref)
    (had has : List ℕ) : Type 0 where
  pub more : List Ref
  pub put : new ≡ old ++ more
  pub gained : List ℕ
  pub listed : has ≡ had ++ gained
  pub suffices : Suffice P row floor begun has more (λ cells. IsWatched P row floor cells at)

-- The same of what is to be watched at several places.
pub record AreFollowed (P : NamedProgram) (row : List Ref) (floor begun : ℕ) (places old new : List Ref)
    (had has : List ℕ) : Type 0 where
  pub more : List Ref
  pub put : new ≡ old ++ more
  pub gained : List ℕ
  pub listed : has ≡ had ++ gained
  pub suffices : Suffice P row floor begun has more (λ cells. All (IsWatched P row floor cells) places)

-- The structure was put on the list, or has no parts.
abbrev pub IsPutIfParted : NamedProgram → Ref → (old new : List Ref) → Type 0
IsPutIfParted P at old new = (new ≡ old ++ at ∷ []) ⊎ ((new ≡ old) × (parts_of P at ≡ []))

-- ---- After a trial that fitted

-- Among the cells are each below the floor that was set, and each free one below it that what it is set to holds.
abbrev pub HaveWhatWasSet : NamedProgram → (new : List Ref) → (floor : ℕ) → (bound cells : List ℕ) → Type 0
HaveWhatWasSet P new floor bound cells =
    (b : ℕ) → Contains bound b → b < floor
    → Contains cells b × ((v : ℕ) → Holds P new (Cell b) v → word_at new v ≡ Free → v < floor → Contains cells v)

-- these cells, where they are told
abbrev pub told_if : Bool → List ℕ → Option (List ℕ)
told_if true cells = Some cells
told_if false cells = None

-- The cells were told before, and these are among them.
abbrev pub HadBefore : Option (List ℕ) → List ℕ → Type 0
HadBefore told cells = (had : List ℕ) × (told ≡ Some had) × ((cell : ℕ) → Contains had cell → Contains cells cell)

-- Each cell of a list below the floor is on another list, and what is to be watched at it was put on that or on the
-- list of visits, which had nothing.
pub record AreListed (P : NamedProgram) (row : List Ref) (bound : List ℕ) (floor : ℕ) (visits : List Ref)
    (old new : List ℕ) : Type 0 where
  pub gained : List ℕ
  pub longer : new ≡ old ++ gained
  pub here : (b : ℕ) → Contains bound b → b < floor → Contains new b
  pub suffices : Suffice P row floor 0 new visits (λ cells. (b : ℕ) → Contains bound b → b < floor
      → IsWatched P row floor cells (Cell b))

-- Each of these cells is on a list, which may be longer than it was.
pub record AreAllListed (cells old new : List ℕ) : Type 0 where
  pub gained : List ℕ
  pub longer : new ≡ old ++ gained
  pub there : (cell : ℕ) → Contains cells cell → Contains new cell

-- ---- Arguments that are free

-- No two of these cells are one.
abbrev pub AreApart : List ℕ → Type 0
AreApart [] = Unit {0}
AreApart (cell ∷ cells) = All (λ (other : ℕ). other ≢ cell) cells × AreApart cells

-- The arguments are these cells, which are free, and no two are one.
pub record AreFreeArguments (P : NamedProgram) (row : List Ref) (base : ℕ) (arguments cells : List ℕ) : Type 0 where
  pub parts : map (part_at P base) arguments ≡ map (λ (cell : ℕ). Cell cell) cells
  pub below : All (λ (cell : ℕ). cell < length row) cells
  pub free : AreFree row cells
  pub apart : AreApart cells
