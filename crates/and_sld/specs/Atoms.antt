-- Programs of the textbook: their calls and heads are atoms, and some have no arithmetic.
use Rattle.std.specs.Prelude.{ℕ, List, [], ◌∷◌}
use Rattle.and_model.specs.Terms.{Term, variable, number, compound}
use Rattle.and_model.specs.Programs.{Program, Item, call, equal, arithmetic, fail, clause_at}

-- a name with arguments, if any (Lloyd, section 2)
abbrev pub IsAtom : Term → Type 0
IsAtom (variable q k) = ⊥
IsAtom (number z) = ⊥
IsAtom (compound c ts) = Unit {0}

-- the calls of a body are atoms
abbrev pub AreAtoms : List Item → Type 0
AreAtoms [] = Unit {0}
AreAtoms (call g ∷ items) = IsAtom g × AreAtoms items
AreAtoms (equal a b ∷ items) = AreAtoms items
AreAtoms (arithmetic a ∷ items) = AreAtoms items
AreAtoms (fail ∷ items) = AreAtoms items

-- So are all heads and calls of the program and its query. (The query's head is the atom `true`.)
abbrev pub HasAtoms : Program → Type 0
HasAtoms P = (c : ℕ) → IsAtom (clause_at P c).head × AreAtoms (clause_at P c).body
