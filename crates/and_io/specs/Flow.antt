-- What a call on a source may do to the bytes that are left, and what a call on a source or a sink may do to the
-- count of faults. All of it is this project's own. Where a source does not tell what is left, that is `None`.
use Rattle.std.specs.Prelude.{◌≡◌, ℕ, ◌<◌, ◌≤◌, ◌⊎◌, List, ◌++◌, length, Option, Some, None}

-- The count of faults rose, or stands at its last value, where it has one
abbrev pub Rose : Option ℕ → ℕ → ℕ → Type 0
Rose None old new = old < new
Rose (Some last) old new = (old < new) ⊎ (new ≡ last)

-- At its last value, where it has one, the count stays
abbrev pub Stays : Option ℕ → ℕ → ℕ → Type 0
Stays None old new = Unit {0}
Stays (Some last) old new = old ≡ last → new ≡ last

-- These bytes were the front of what was left, and the rest is left. A source that does not tell its
-- bytes never tells them later
abbrev pub Takes : Option (List ℕ) → Option (List ℕ) → List ℕ → Type 0
Takes None new bytes = new ≡ None
Takes (Some old) new bytes = (rest : List ℕ) × (new ≡ Some rest) × (old ≡ bytes ++ rest)

-- These are all the bytes that are left, where that is told
abbrev pub AreAll : Option (List ℕ) → List ℕ → Type 0
AreAll None bytes = Unit {0}
AreAll (Some left) bytes = left ≡ bytes

-- Some front of what was left was taken, of at most so many bytes
abbrev pub TakesAtMost : ℕ → Option (List ℕ) → Option (List ℕ) → Type 0
TakesAtMost most old new = (bytes : List ℕ) × Takes old new bytes × (length bytes ≤ most)
