-- Cells that were set and are still to be looked at.
use Rattle.std.specs.Prelude.{ℕ, ◌≡◌, ◌<◌, ◌≤◌, ◌⊎◌, List, length, All}
use Rattle.and_model.specs.declared.reference.Ref.{Ref}
use Rattle.and_model.specs.declared.reference.Ref.TheVariants.{Free, Cell, Node, Number, Half}
use Rattle.and_program.specs.Loaded.{arguments_at}
use Rattle.and_cells.specs.Ranges.{NamedProgram}
use Rattle.and_cells.specs.Seen.{word_at}
use Rattle.and_heads.specs.declared.owing.Owed.{Owed}
use Rattle.and_heads.specs.declared.owing.Owed.TheVariants.{Nothing, One, Several}

-- Each path from the cell, which is set to the reference, ends there, or comes below the floor from above it.
abbrev pub EndsAt : NamedProgram → (floor cell : ℕ) → Ref → Type 0
EndsAt P floor cell Free = ⊥
EndsAt P floor cell (Cell other) = (floor ≤ cell) × (other < floor)
EndsAt P floor cell (Node node base) = ((floor ≤ cell) × (base < floor)) ⊎ (length (arguments_at P.skeleton node.0) ≡ 0)
EndsAt P floor cell (Number pair) = Unit {0}
EndsAt P floor cell (Half bits) = ⊥

-- So it is of what the cell is set to.
abbrev pub EndsAtWord : NamedProgram → (floor : ℕ) → List Ref → (cell : ℕ) → Type 0
EndsAtWord P floor row cell = EndsAt P floor cell (word_at row cell)

-- what is owed with one cell more
abbrev pub with_one : Owed → (cell : ℕ) → Owed
with_one Nothing cell = One cell
with_one (One first) cell = Several
with_one Several cell = Several

-- The cell ends at this reference, or it is owed too.
abbrev pub Owes : NamedProgram → (floor cell : ℕ) → Ref → (old new : Owed) → Type 0
Owes P floor cell to old new = ((new ≡ old) × EndsAt P floor cell to) ⊎ (new ≡ with_one old cell)

-- Of the cells that were set all end at what they are set to but those that are owed.
abbrev pub AreOwed : NamedProgram → (floor : ℕ) → List Ref → (bound : List ℕ) → Owed → Type 0
AreOwed P floor row bound Nothing = All (EndsAtWord P floor row) bound
AreOwed P floor row bound (One cell) =
    (cell < length row) × All (λ (other : ℕ). (other ≡ cell) ⊎ EndsAtWord P floor row other) bound
AreOwed P floor row bound Several = Unit {0}
