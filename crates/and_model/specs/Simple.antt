-- Programs without arithmetic.
use Rattle.std.specs.Prelude.{ℕ, List, [], ◌∷◌}
use Rattle.and_model.specs.Programs.{Program, Item, call, equal, arithmetic, fail, clause_at}

-- no item is arithmetic
abbrev pub AreSimple : List Item → Type 0
AreSimple [] = Unit {0}
AreSimple (call g ∷ items) = AreSimple items
AreSimple (equal a b ∷ items) = AreSimple items
AreSimple (arithmetic a ∷ items) = ⊥
AreSimple (fail ∷ items) = AreSimple items

-- Neither the query nor a clause has arithmetic.
abbrev pub IsSimple : Program → Type 0
IsSimple P = (c : ℕ) → AreSimple (clause_at P c).body
