-- What one turn of a walk over an expression does to what is still to be done.
use Rattle.std.specs.Prelude.{ℕ, suc, ℤ, ◌≡◌, ◌<◌, ◌≤◌, ◌+◌, ◌^◌, List, [], ◌∷◌, ◌++◌, map, length, reverse, Contains}
use Rattle.std.specs.Prelude.{Option, Some, None}
use Rattle.and_model.specs.Arithmetic.{in_range, operated}
use Rattle.and_model.specs.declared.numbers.NodeNo.{NodeNo}
use Rattle.and_model.specs.declared.reference.Ref.{Ref}
use Rattle.and_model.specs.declared.reference.Ref.TheVariants as reference
use Rattle.and_program.specs.Skeletons as shapes
use Rattle.and_program.specs.Loaded.{shape_at}
use Rattle.and_cells.specs.Ranges.{NamedProgram, IsInRange, IsInRangeOrHalf}
use Rattle.and_cells.specs.Seen.{Seen, OnlyReads, Knows, LeadsTo, FoundFree, IsWrittenIfNumber}
use Rattle.and_cells.specs.Numbers.{number_of}
use Rattle.and_cells.specs.Parts.{parts_of}
use Rattle.and_arith.specs.Taken.{Listed, IsNew, Gives}
use Rattle.and_arith.specs.declared.values.WorkList.{WorkList}
use Rattle.and_arith.specs.declared.walk.Task.{Task}
use Rattle.and_arith.specs.declared.walk.Task.TheVariants.{Enter, Leave, Keep}

-- Where the walk stands: what is seen, what is to do and the values so far (the next and the last one first), the
-- cells that were taken, and the fuel.
pub record Stand : Type 0 where
  pub seen : Seen
  pub tasks : List Task
  pub values : List (Option ℤ)
  pub taken : Listed
  pub fuel : ℕ

-- where the walk stands with this work
abbrev pub stand : Seen → WorkList → (fuel : ℕ) → Stand
stand seen work fuel = record {
  seen = seen;
  tasks = reverse work.tasks.items;
  values = reverse work.values.items;
  taken = work.taken;
  fuel = fuel;
}

-- what is to do, the values so far, and the cells that were taken
pub record Undone : Type 0 where
  pub tasks : List Task
  pub values : List (Option ℤ)
  pub taken : Listed

abbrev pub undone : WorkList → Undone
undone work = record { tasks = reverse work.tasks.items; values = reverse work.values.items; taken = work.taken }

abbrev pub undone_at : Stand → Undone
undone_at s = record { tasks = s.tasks; values = s.values; taken = s.taken }

-- A reference without parts, and its value.
pub data IsEnd (P : NamedProgram) (s : Seen) : Ref → Option ℤ → Type 0 where
  of_pair : (pair : ℕ) (high low : Ref) → Knows s pair high → Knows s (suc pair) low
      → in_range (number_of high low) ≡ Some (number_of high low)
      → IsEnd P s (reference.Number pair) (Some (number_of high low))
  of_half : (bits : ℕ) → IsEnd P s (reference.Half bits) None
  of_literal : (node : NodeNo) (base : ℕ) (z : ℤ) → in_range z ≡ Some z → shape_at P.skeleton node.0 ≡ shapes.number z
      → IsEnd P s (reference.Node node base) (Some z)

-- The node is a name with these arguments, at most 255 of them.
pub record IsStructureAt (P : NamedProgram) (node : NodeNo) : Type 0 where
  pub name : ℕ
  pub arguments : List ℕ
  pub shape : shape_at P.skeleton node.0 ≡ shapes.compound name arguments
  pub few : length arguments ≤ 255

-- how a part leads to what has a value: it is that itself, or leads to a cell that is known to be set to it
abbrev pub IsComeTo : Seen → (part : Ref) → (by : Option ℕ) → (place : Ref) → Type 0
IsComeTo s part None place = place ≡ part
IsComeTo s part (Some cell) place = LeadsTo s part (reference.Cell cell) × Knows s cell place

-- the tasks of a structure: its parts, from left to right, and then itself
abbrev pub tasks_of : (P : NamedProgram) (node : NodeNo) (base name count : ℕ) → List Task → List Task
tasks_of P node base name count rest =
    map Enter (parts_of P (reference.Node node base)) ++ Leave (record { 0 = name }) count ∷ rest

-- What becomes of a place, to which a part led by itself or by a cell that is set to it.
pub data Comes (P : NamedProgram) (by : Option ℕ) (place : Ref) (s : Seen) (old new : Undone) : Type 0 where
  -- It has no parts.
  ends : (v : Option ℤ) → IsEnd P s place v → new.tasks ≡ old.tasks → new.values ≡ v ∷ old.values
      → new.taken ≡ old.taken → Comes P by place s old new
  -- The cell was taken.
  again : (cell : ℕ) (v : Option ℤ) (node : NodeNo) (base : ℕ) → by ≡ Some cell → place ≡ reference.Node node base
      → Contains old.taken (cell, v) → new.tasks ≡ old.tasks
      → new.values ≡ v ∷ old.values → new.taken ≡ old.taken → Comes P by place s old new
  -- It is a structure that no cell leads to.
  opens : (node : NodeNo) (base : ℕ) (structure : IsStructureAt P node) → by ≡ None → place ≡ reference.Node node base
      → new.tasks ≡ tasks_of P node base structure.name (length structure.arguments) old.tasks
      → new.values ≡ old.values → new.taken ≡ old.taken → Comes P by place s old new
  -- It is a structure, and the cell was not taken.
  takes : (cell : ℕ) (node : NodeNo) (base : ℕ) (structure : IsStructureAt P node) → by ≡ Some cell
      → place ≡ reference.Node node base → IsNew old.taken cell
      → new.tasks ≡ tasks_of P node base structure.name (length structure.arguments) (Keep cell ∷ old.tasks)
      → new.values ≡ old.values
      → new.taken ≡ old.taken ++ (cell, None) ∷ [] → length new.taken < 2 ^ 63 → Comes P by place s old new

-- The part was entered, for 1 of the fuel.
pub record Enters (P : NamedProgram) (part : Ref) (old new : Stand) : Type 0 where
  pub by : Option ℕ
  pub place : Ref
  pub reads : OnlyReads old.seen new.seen
  pub come_to : IsComeTo new.seen part by place
  pub in_range : IsInRangeOrHalf P new.seen.words place
  pub comes : Comes P by place new.seen (undone_at old) (undone_at new)
  pub fuel : old.fuel ≡ suc new.fuel

-- The values of a structure's arguments, the last one first, give its own.
pub record Leaves (name count : ℕ) (old new : Stand) : Type 0 where
  pub last : List (Option ℤ)
  pub others : List (Option ℤ)
  pub seen : new.seen ≡ old.seen
  pub tasks : new.tasks ≡ old.tasks
  pub given : old.values ≡ last ++ others
  pub counted : length last ≡ count
  pub values : new.values ≡ operated name (reverse last) ∷ others
  pub taken : new.taken ≡ old.taken
  pub fuel : new.fuel ≡ old.fuel

-- The last value is the cell's.
pub record Keeps (cell : ℕ) (old new : Stand) : Type 0 where
  pub value : Option ℤ
  pub others : List (Option ℤ)
  pub seen : new.seen ≡ old.seen
  pub tasks : new.tasks ≡ old.tasks
  pub last : old.values ≡ value ∷ others
  pub values : new.values ≡ old.values
  pub taken : Gives cell value old.taken new.taken
  pub fuel : new.fuel ≡ old.fuel

-- One turn.
pub data Turns (P : NamedProgram) (old new : Stand) : Type 0 where
  enters : (part : Ref) (rest : List Task) → old.tasks ≡ Enter part ∷ rest
      → Enters P part (record old { tasks = rest }) new → Turns P old new
  leaves : (name count : ℕ) (rest : List Task) → old.tasks ≡ Leave (record { 0 = name }) count ∷ rest
      → Leaves name count (record old { tasks = rest }) new → Turns P old new
  keeps : (cell : ℕ) (rest : List Task) → old.tasks ≡ Keep cell ∷ rest
      → Keeps cell (record old { tasks = rest }) new → Turns P old new

-- A part comes next, and leads to a cell that was found free.
pub record Stops (shared cell : ℕ) (old new : Stand) : Type 0 where
  pub part : Ref
  pub rest : List Task
  pub next : old.tasks ≡ Enter part ∷ rest
  pub reads : OnlyReads old.seen new.seen
  pub leads : LeadsTo new.seen part (reference.Cell cell)
  pub free : FoundFree shared cell old.seen new.seen
  pub fuel : old.fuel ≡ suc new.fuel

-- A part comes next, and no fuel is left for it.
pub record PutsOff (old new : Stand) : Type 0 where
  pub part : Ref
  pub rest : List Task
  pub next : old.tasks ≡ Enter part ∷ rest
  pub seen : new.seen ≡ old.seen
  pub fuel : (old.fuel ≡ 0) × (new.fuel ≡ 0)

-- Nothing is left to do, and this is the last value.
pub record Finishes (v : Option ℤ) (old new : Stand) : Type 0 where
  pub others : List (Option ℤ)
  pub done : old.tasks ≡ []
  pub last : old.values ≡ v ∷ others
  pub seen : new.seen ≡ old.seen
  pub fuel : new.fuel ≡ old.fuel

-- so many values are there for what is to be left, kept and done
abbrev pub AreCounted : List Task → ℕ → Type 0
AreCounted [] n = n ≡ 1
AreCounted (Enter part ∷ tasks) n = AreCounted tasks (suc n)
AreCounted (Leave name count ∷ tasks) n = (others : ℕ) × (n ≡ count + others) × AreCounted tasks (suc others)
AreCounted (Keep cell ∷ tasks) n = (0 < n) × AreCounted tasks n

-- The next turn can be taken: what is to be entered is in range, what is to be kept was taken, and there are values
-- enough.
pub record IsReady (P : NamedProgram) (s : Stand) : Type 0 where
  pub enters : (r : Ref) → Contains s.tasks (Enter r) → IsInRange P s.seen.words r × IsWrittenIfNumber s.seen r
  pub keeps : (cell : ℕ) → Contains s.tasks (Keep cell) → IsNew s.taken cell → ⊥
  pub counted : AreCounted s.tasks (length s.values)
