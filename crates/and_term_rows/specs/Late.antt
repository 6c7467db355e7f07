-- What contracts see in cells that keep a list of what they know, over a row that they do not tell (for trials of
-- code that is generic over cells).
use Rattle.std.specs.Prelude.{ℕ, Bool, List, map, length, None}
use Rattle.and_model.specs.Store.{Setting, Known, word}
use Rattle.and_model.specs.Prefixes.{IsPrefix}
use Rattle.and_model.specs.declared.reference.Ref.{Ref}
use Rattle.and_cells.specs.Seen.{Seen}

-- a word's place, its value, and whether these cells set it
abbrev pub Learnt : Type 0
Learnt = ℕ × Ref × Bool

abbrev pub setting_of : Learnt → Setting
setting_of k = record { place = k.0; value = k.1 }

abbrev pub known_of : Learnt → Known
known_of k = record { setting = setting_of k; is_own = k.2 }

abbrev pub glimpse : List Ref → List Learnt → List ℕ → Seen
glimpse row known missed =
    record { words = length row; told = None; known = map known_of known; missed = map word missed }

-- what such cells say of themselves beside what all cells do: the list of what they learnt and set only grew, in order
abbrev pub Longer : List Learnt → List Learnt → Type 0
Longer old new = IsPrefix (map known_of old) (map known_of new)
