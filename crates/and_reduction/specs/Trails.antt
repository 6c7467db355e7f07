-- What is noted of a row, so that it can be had again as it was.
use Rattle.std.specs.Prelude.{ℕ, ◌<◌, ◌≡◌, ◌⊎◌, Option, Some, List, length, Contains}
use Rattle.and_model.specs.declared.reference.Ref.{Ref}
use Rattle.and_cells.specs.Rows.{OnlySet}

-- What is noted of a row: how many words it had at first, if it is to be had again, and which of its words were set
-- since.
pub record Noted : Type 0 where
  pub mark : Option ℕ
  pub cells : List ℕ

-- The first row can be had again from this one: it had as many words as is noted, and none of them but those noted,
-- which were free, was set.
pub record IsNoted (first : List Ref) (n : Noted) (row : List Ref) : Type 0 where
  pub mark : n.mark ≡ Some (length first)
  pub only : OnlySet n.cells first row

-- A step from the one row to the other noted what it set.
pub record KeepsNoted (old new : Noted) (before after : List Ref) : Type 0 where
  pub mark : new.mark ≡ old.mark
  pub noted : (first : List Ref) → IsNoted first old before → IsNoted first new after

-- Those of the cells that lie below the mark were noted, and nothing else.
pub record AreNoted (old new : Noted) (cells : List ℕ) : Type 0 where
  pub mark : new.mark ≡ old.mark
  pub stay : (cell : ℕ) → Contains old.cells cell → Contains new.cells cell
  pub below : (words cell : ℕ) → old.mark ≡ Some words → Contains cells cell → cell < words → Contains new.cells cell
  pub only : (cell : ℕ) → Contains new.cells cell → Contains old.cells cell ⊎ Contains cells cell
