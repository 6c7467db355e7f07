-- Cells whose terms were come to, with the values of these.
use Rattle.std.specs.Prelude.{ℕ, ◌≡◌, ◌≢◌, ◌⊎◌, ◌<◌, ℤ, List, map, length, Option, None, Contains, get_or}
use Rattle.and_arith.specs.declared.taken.Entry.{Entry}

-- the cells, each with the value that it has so far
abbrev pub Listed : Type 0
Listed = List (ℕ × Option ℤ)

abbrev pub entry_of : Entry → ℕ × Option ℤ
entry_of e = (e.cell, e.value)

abbrev pub cells_of : Listed → List ℕ
cells_of taken = map (λ (e : ℕ × Option ℤ). e.0) taken

-- the cell has no entry
abbrev pub IsNew : Listed → ℕ → Type 0
IsNew taken cell = (v : Option ℤ) → Contains taken (cell, v) → ⊥

-- The cell has this value now, and each other cell the one that it had.
pub record Gives (cell : ℕ) (value : Option ℤ) (old new : Listed) : Type 0 where
  pub cells : cells_of new ≡ cells_of old
  pub only : (c : ℕ) (v : Option ℤ) → Contains new (c, v)
      → ((c ≡ cell) × (v ≡ value)) ⊎ ((c ≢ cell) × Contains old (c, v))

-- an entry that stands for none
abbrev pub no_entry : Entry
no_entry = record { cell = 0; value = None }

-- the slot of the cell of each entry is the place of the entry
abbrev pub AreSlotted : (slots : List ℕ) → List Entry → Type 0
AreSlotted slots entries = (i : ℕ) → i < length entries → get_or slots (get_or entries i no_entry).cell 0 ≡ i
