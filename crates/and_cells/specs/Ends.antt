-- Terms that end: no path through cells and parts goes on for ever.
use Rattle.std.specs.Prelude.{ℕ, ◌<◌, ◌≡◌, Bool, true, List, Contains}
use Rattle.and_model.specs.Store.{is_half}
use Rattle.and_model.specs.declared.numbers.NodeNo.{NodeNo}
use Rattle.and_model.specs.declared.reference.Ref.{Ref}
use Rattle.and_model.specs.declared.reference.Ref.TheVariants.{Free, Cell, Node, Number, Half}
use Rattle.and_cells.specs.Ranges.{NamedProgram}
use Rattle.and_cells.specs.Seen.{word_at, IsSetTo}
use Rattle.and_cells.specs.Parts.{parts_of}

-- a cell below the floor, or a structure in a frame that begins below it
abbrev pub IsBelow : (floor : ℕ) → Ref → Type 0
IsBelow floor Free = ⊥
IsBelow floor (Cell cell) = cell < floor
IsBelow floor (Node node base) = base < floor
IsBelow floor (Number pair) = ⊥
IsBelow floor (Half bits) = ⊥

-- Ends P row floor halves r: each path from the reference ends at a free cell, at a number, at a structure without
-- arguments or below the floor, or, where halves may be ends too, in a word of a pair.
pub data Ends (P : NamedProgram) (row : List Ref) (floor : ℕ) (halves : Bool) : Ref → Type 0 where
  low : (r : Ref) → IsBelow floor r → Ends P row floor halves r
  free : (cell : ℕ) → word_at row cell ≡ Free → Ends P row floor halves (Cell cell)
  half : (cell : ℕ) → halves ≡ true → is_half (word_at row cell) ≡ true → Ends P row floor halves (Cell cell)
  set : (cell : ℕ) (r : Ref) → IsSetTo row cell r → Ends P row floor halves r → Ends P row floor halves (Cell cell)
  parts : (node : NodeNo) (base : ℕ)
      → ((r : Ref) → Contains (parts_of P (Node node base)) r → Ends P row floor halves r)
      → Ends P row floor halves (Node node base)
  number : (pair : ℕ) → Ends P row floor halves (Number pair)
