-- Marks of cells, as they are kept and read.
use Rattle.std.specs.Prelude.{ℕ, suc, ◌≡◌, ◌⊎◌, cond, nat_eq, List, [], ◌∷◌, Contains, Option, None, Some}
use Rattle.std.specs.Prelude.{slice_index_or}
use Rattle.and_model.specs.declared.reference.Ref.{Ref}
use Rattle.and_circles.specs.declared.marks.Mark.{Mark}
use Rattle.and_circles.specs.declared.marks.Stamp.{Stamp}

-- the mark of each cell, by its number
abbrev pub Listed : Type 0
Listed = List (Option Mark)

-- the mark of this cell; none has one behind the list
abbrev pub mark_at : Listed → (cell : ℕ) → Option Mark
mark_at marks cell = slice_index_or marks cell None

abbrev pub AreUnmarked : Listed → Type 0
AreUnmarked marks = (cell : ℕ) → mark_at marks cell ≡ None

-- how many cells of the list have no mark
abbrev pub unmarked : Listed → ℕ
unmarked [] = 0
unmarked (None ∷ marks) = suc (unmarked marks)
unmarked (Some mark ∷ marks) = unmarked marks

-- A mark counts in the round in which it was given.
abbrev pub mark_in : (round : ℕ) → Stamp → Option Mark
mark_in round stamp = cond (nat_eq stamp.round round) (Some stamp.mark) None

-- Nothing came to a list but this.
abbrev pub Adds : Ref → (old new : List Ref) → Type 0
Adds at old new = (r : Ref) → Contains new r → (r ≡ at) ⊎ Contains old r
