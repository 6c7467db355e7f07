-- A walk below a reference, depth first, by a list of visits (the next one first).
use Rattle.std.specs.Prelude.{ℕ, suc, ◌+◌, ◌*◌, ◌^◌, ◌≤◌, ◌<◌, ◌≡◌, Bool, true, false, List, [], ◌∷◌, ◌++◌, map}
use Rattle.std.specs.Prelude.{length, reverse, Contains, All, Option, Some, None, Result, Ok}
use Rattle.std.specs.declared.alloc.AllocError.{AllocError}
use Rattle.and_model.specs.Store.{is_half}
use Rattle.and_model.specs.declared.reference.Ref.{Ref}
use Rattle.and_model.specs.declared.reference.Ref.TheVariants.{Free, Cell, Node, Number, Half}
use Rattle.and_program.specs.Skeletons.{AllFall}
use Rattle.and_cells.specs.Ranges.{NamedProgram, IsInRange}
use Rattle.and_cells.specs.Seen.{word_at, IsSetTo}
use Rattle.and_cells.specs.Rows.{IsSound}
use Rattle.and_cells.specs.Meaning.{IsCircle, Holds}
use Rattle.and_cells.specs.Parts.{parts_of}
use Rattle.and_cells.specs.Ends.{Ends}
use Rattle.and_circles.specs.Marked.{Listed, mark_at, unmarked}
use Rattle.and_circles.specs.Explored.{AreFinished, finished}
use Rattle.and_circles.specs.declared.marks.Mark.TheVariants.{Open, Done}
use Rattle.and_circles.specs.declared.explorer.Explored.{Explored}
use Rattle.and_circles.specs.declared.explorer.Explored.TheVariants as explored
use Rattle.and_circles.specs.declared.walk.Visit.{Visit}
use Rattle.and_circles.specs.declared.walk.Visit.TheVariants.{Enter, Leave}
use Rattle.and_circles.specs.declared.walk.Walk.{Walk}

-- A step leads from a cell to its word, and from a structure to a part.
abbrev pub IsStep : NamedProgram → List Ref → (from to : Ref) → Type 0
IsStep P row Free to = ⊥
IsStep P row (Cell cell) to = IsSetTo row cell to
IsStep P row (Node node base) to = Contains (parts_of P (Node node base)) to
IsStep P row (Number pair) to = ⊥
IsStep P row (Half bits) to = ⊥

-- It is a step below the place that is left next, and where none is left it is the root.
abbrev pub Follows : NamedProgram → List Ref → (root : Ref) → List Visit → Ref → Type 0
Follows P row root [] r = r ≡ root
Follows P row root (Enter at ∷ visits) r = Follows P row root visits r
Follows P row root (Leave at ∷ visits) r = IsStep P row at r

-- So each visit follows those behind it, and is of what is in range.
abbrev pub AreOnPath : NamedProgram → List Ref → (root : Ref) → List Visit → Type 0
AreOnPath P row root [] = Unit {0}
AreOnPath P row root (Enter at ∷ visits) =
    Follows P row root visits at × IsInRange P (length row) at × AreOnPath P row root visits
AreOnPath P row root (Leave at ∷ visits) =
    Follows P row root visits at × IsInRange P (length row) at × AreOnPath P row root visits

-- the places that are still to be left
abbrev pub left_in : List Visit → List Ref
left_in [] = []
left_in (Enter at ∷ visits) = left_in visits
left_in (Leave at ∷ visits) = at ∷ left_in visits

-- Once all that is entered before it ends, each place that is left ends, and so does the root.
abbrev pub Owes : (E : Ref → Type 0) → (root : Ref) → List Visit → Type 0
Owes E root [] = E root
Owes E root (Enter at ∷ visits) = E at → Owes E root visits
Owes E root (Leave at ∷ visits) = E at × Owes E root visits

-- the cell among the places that are left which is left first
abbrev pub nearest_cell : List Visit → Option ℕ
nearest_cell [] = None
nearest_cell (Enter at ∷ visits) = nearest_cell visits
nearest_cell (Leave Free ∷ visits) = nearest_cell visits
nearest_cell (Leave (Cell cell) ∷ visits) = Some cell
nearest_cell (Leave (Node node base) ∷ visits) = nearest_cell visits
nearest_cell (Leave (Number pair) ∷ visits) = nearest_cell visits
nearest_cell (Leave (Half bits) ∷ visits) = nearest_cell visits

-- What holds between two visits.
pub record Walks (P : NamedProgram) (row : List Ref) (floor : ℕ) (halves : Bool) (root : Ref) (marks : Listed)
    (visits : List Visit) : Type 0 where
  pub falls : AllFall 0 P.skeleton.nodes
  pub sound : IsSound P row
  -- Each cell of the row has its place among the marks.
  pub room : length row ≤ length marks
  -- What is done ends, and what is open is still to be left.
  pub done : (cell : ℕ) → mark_at marks cell ≡ Some Done → Ends P row floor halves (Cell cell)
  pub opened : (cell : ℕ) → mark_at marks cell ≡ Some Open → Contains (left_in visits) (Cell cell)
  pub path : AreOnPath P row root visits
  pub owes : Owes (Ends P row floor halves) root visits

-- the walk is to make these visits
abbrev pub IsWalking : NamedProgram → List Ref → (root : Ref) → Walk → Type 0
IsWalking P row root w = Walks P row w.floor w.halves root w.marks (reverse w.visits.items)

-- the walk has taken up this visit
abbrev pub IsTaking : NamedProgram → List Ref → (root : Ref) → Visit → Walk → Type 0
IsTaking P row root visit w = Walks P row w.floor w.halves root w.marks (visit ∷ reverse w.visits.items)

-- no cell is open, and nothing is to be visited
abbrev pub IsAtRest : Walk → Type 0
IsAtRest w = ((cell : ℕ) → mark_at w.marks cell ≡ Some Open → ⊥) × (w.visits.items ≡ [])

-- What holds between walks of a sound row: what was walked ends, nothing is still to be visited, and each cell has
-- its place among the marks.
pub record IsRested (P : NamedProgram) (row : List Ref) (w : Walk) : Type 0 where
  pub sound : IsSound P row
  pub room : length row ≤ length w.marks
  pub finished : AreFinished P row (finished w.marks w.structures w.floor w.halves)
  pub rest : IsAtRest w

-- The walk came to its end: what is known to end does, nothing is to be visited, and each path from the root ends.
abbrev pub HasWalked : NamedProgram → List Ref → (root : Ref) → (old new : Walk) → Type 0
HasWalked P row root old new = AreFinished P row (finished new.marks new.structures old.floor old.halves)
    × IsAtRest new × Ends P row old.floor old.halves root

-- each path from the structures that are kept ends
abbrev pub AreEnded : NamedProgram → List Ref → Walk → Type 0
AreEnded P row w = All (Ends P row w.floor w.halves) w.structures

-- what counts as an end stays
abbrev pub Stays : (old new : Walk) → Type 0
Stays old new = (new.floor ≡ old.floor) × (new.halves ≡ old.halves)

-- These are to be entered, and then the place is to be left.
pub record Opens (at : Ref) (parts : List Ref) (old new : Walk) : Type 0 where
  pub visits : new.visits.items ≡ old.visits.items ++ Leave at ∷ map Enter parts
  pub short : length parts ≤ 255
  pub stays : Stays old new

-- Only structures have a height above 0: each part of one is lower.
abbrev pub height : Ref → ℕ
height Free = 0
height (Cell cell) = 0
height (Node node base) = suc node.0
height (Number pair) = 0
height (Half bits) = 0

-- a bound on the visits that these lead to until a cell is opened: a structure has at most 255 parts, and is left
abbrev pub weight : Visit → ℕ
weight (Enter at) = 512 ^ height at
weight (Leave at) = 1

abbrev pub weights : List Visit → ℕ
weights [] = 0
weights (visit ∷ visits) = weight visit + weights visits

-- a bound on the visits that are left: each cell is opened once, and leads to one word
abbrev pub visits_left : NamedProgram → Listed → List Visit → ℕ
visits_left P marks visits = 512 ^ suc (length P.skeleton.nodes) * unmarked marks + weights visits

-- a circle that is answered is one, and a half is below the root
pub record Answers (P : NamedProgram) (row : List Ref) (halves : Bool) (root : Ref)
    (answer : Result Explored AllocError) : Type 0 where
  pub circle : (cell : ℕ) → answer ≡ Ok (explored.Circle cell) → IsCircle P row cell
  pub half : (cell : ℕ) → answer ≡ Ok (explored.Half cell)
      → Holds P row root cell × (is_half (word_at row cell) ≡ true) × (halves ≡ false)

-- The visit was made, and what it answers holds.
pub record Goes (P : NamedProgram) (row : List Ref) (visit : Visit) (old new : Walk)
    (answer : Result Explored AllocError) : Type 0 where
  pub stays : Stays old new
  pub ends : answer ≡ Ok explored.Ends → (root : Ref) → IsTaking P row root visit old → IsWalking P row root new
      × (visits_left P new.marks (reverse new.visits.items)
      < visits_left P old.marks (visit ∷ reverse old.visits.items))
  pub answers : (root : Ref) → IsTaking P row root visit old → Answers P row old.halves root answer
