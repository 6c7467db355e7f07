-- Terms that hold no variable, and lists of references that have such terms.
use Rattle.std.specs.Prelude.{ℕ, ◌≡◌, ◌<◌, ◌⊎◌, List, [], length, take, All, Contains, slice_index_or}
use Rattle.and_model.specs.declared.numbers.NodeNo.{NodeNo}
use Rattle.and_model.specs.declared.reference.Ref.{Ref}
use Rattle.and_model.specs.declared.reference.Ref.TheVariants.{Free, Cell, Node, Number, Half}
use Rattle.and_cells.specs.Ranges.{NamedProgram}
use Rattle.and_cells.specs.Seen.{word_at, IsSetTo}
use Rattle.and_cells.specs.Parts.{parts_of}

-- Each path from the reference ends at a number or at a structure without arguments.
pub data EndsGround (P : NamedProgram) (row : List Ref) : Ref → Type 0 where
  set : (cell : ℕ) (r : Ref) → IsSetTo row cell r → EndsGround P row r → EndsGround P row (Cell cell)
  parts : (node : NodeNo) (base : ℕ)
      → ((r : Ref) → Contains (parts_of P (Node node base)) r → EndsGround P row r)
      → EndsGround P row (Node node base)
  number : (pair : ℕ) → EndsGround P row (Number pair)

-- The reference is a number, a structure without arguments, or one of these.
abbrev pub IsEndOrAmong : NamedProgram → (known : List Ref) → Ref → Type 0
IsEndOrAmong P known Free = ⊥
IsEndOrAmong P known (Cell cell) = Contains known (Cell cell)
IsEndOrAmong P known (Node node base) =
    (parts_of P (Node node base) ≡ []) ⊎ Contains known (Node node base)
IsEndOrAmong P known (Number pair) = Unit {0}
IsEndOrAmong P known (Half bits) = ⊥

-- So is all that the reference leads to at once: the word of a cell, and the parts of a structure.
abbrev pub LeadsToKnown : NamedProgram → List Ref → (known : List Ref) → Ref → Type 0
LeadsToKnown P row known Free = ⊥
LeadsToKnown P row known (Cell cell) = IsEndOrAmong P known (word_at row cell)
LeadsToKnown P row known (Node node base) = All (IsEndOrAmong P known) (parts_of P (Node node base))
LeadsToKnown P row known (Number pair) = ⊥
LeadsToKnown P row known (Half bits) = ⊥

-- Each of these leads to those before it, so that all of them are ground.
abbrev pub AreFounded : NamedProgram → List Ref → List Ref → Type 0
AreFounded P row known = (k : ℕ) → k < length known
    → LeadsToKnown P row (take k known) (slice_index_or known k Free)

-- Each cell among these references has its place noted.
abbrev pub AreNoted : (known : List Ref) → (places : List ℕ) → Type 0
AreNoted known places = (k cell : ℕ) → k < length known → slice_index_or known k Free ≡ Cell cell
    → slice_index_or places cell 0 ≡ k

-- A list was cut off, or is as it was.
abbrev pub IsCut : (old new : List Ref) → Type 0
IsCut old new = (count : ℕ) × (new ≡ take count old)
