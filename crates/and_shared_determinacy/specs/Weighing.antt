-- What the comparisons of a clause's guard come to over any cells.
use Rattle.std.specs.Prelude.{ℕ, ◌≡◌, ◌⊎◌, true, false, List, [], ◌∷◌, Contains, Option, Some, None, ℤ}
use Rattle.and_model.specs.Terms.{Term, Substitution, is_ground}
use Rattle.and_model.specs.Arithmetic.{Relation, value, holds}
use Rattle.and_model.specs.Store.{is_half}
use Rattle.and_model.specs.declared.reference.Ref.{Ref}
use Rattle.and_program.specs.Skeletons.{NodeItem, call, equal, is, compare, fail}
use Rattle.and_cells.specs.Ranges.{NamedProgram, IsNodeInRange}
use Rattle.and_cells.specs.Seen.{Seen}
use Rattle.and_cells.specs.Meaning.{Words, shallow_cells}
use Rattle.and_cells.specs.Parts.{part_at}
use Rattle.and_cells.specs.Joined as joined
use Rattle.and_guards.specs.declared.guards.Side.{Side}
use Rattle.and_guards.specs.declared.guards.Side.TheVariants.{Waits, NoValue, Number}
use Rattle.and_shared_determinacy.specs.Truths.{AreTrue}

-- the cells that the reference names are no words of pairs
abbrev pub NamesNoHalf : NamedProgram → Words → Ref → Type 0
NamesNoHalf P w r = (cell : ℕ) → Contains (shallow_cells P r) cell → is_half (w cell) ≡ false

-- Wherever what is known is true, the reference has one ground term, and this is its value.
abbrev pub Amounts : NamedProgram → Seen → Ref → Option ℤ → Type 0
Amounts P s r v =
    (w : Words) → NamesNoHalf P w r → (t : Substitution) → AreTrue P w t s
    → (u : Term) × (is_ground u ≡ true) × (value u ≡ v)
    × ((other : Substitution) → AreTrue P w other s → joined.value P w other r ≡ Some u)

-- what a side of a comparison was found to be
abbrev pub IsSideOver : NamedProgram → Seen → Ref → Side → Type 0
IsSideOver P s r (Waits cell) = Unit {0}
IsSideOver P s r NoValue = Amounts P s r None
IsSideOver P s r (Number z) = Amounts P s r (Some z)

-- Wherever what is known is true, the two have ground terms of which the comparison does not hold.
pub record FailsOver (P : NamedProgram) (s : Seen) (relation : Relation) (left right : Ref) : Type 0 where
  pub terms : (w : Words) → NamesNoHalf P w left → NamesNoHalf P w right → (t : Substitution) → AreTrue P w t s
      → (x : Term) × (y : Term)
      × (is_ground x ≡ true) × (is_ground y ≡ true) × (holds relation x y ≡ false)
      × ((other : Substitution) → AreTrue P w other s
      → (joined.value P w other left ≡ Some x) × (joined.value P w other right ≡ Some y))

-- So it is with some comparison of the guard with which these items begin, in the frame at the base.
abbrev pub GuardFailsOver : NamedProgram → Seen → (base : ℕ) → List NodeItem → Type 0
GuardFailsOver P s base [] = ⊥
GuardFailsOver P s base (compare relation n m ∷ items) =
    FailsOver P s relation (part_at P base n) (part_at P base m) ⊎ GuardFailsOver P s base items
GuardFailsOver P s base (call n ∷ items) = ⊥
GuardFailsOver P s base (equal n m ∷ items) = ⊥
GuardFailsOver P s base (is n m pair ∷ items) = ⊥
GuardFailsOver P s base (fail ∷ items) = ⊥

-- The nodes of the guard with which these items begin are in range.
abbrev pub IsGuardInRange : NamedProgram → (words base : ℕ) → List NodeItem → Type 0
IsGuardInRange P words base [] = Unit {0}
IsGuardInRange P words base (compare relation n m ∷ items) =
    IsNodeInRange P words n base × IsNodeInRange P words m base × IsGuardInRange P words base items
IsGuardInRange P words base (call n ∷ items) = Unit {0}
IsGuardInRange P words base (equal n m ∷ items) = Unit {0}
IsGuardInRange P words base (is n m pair ∷ items) = Unit {0}
IsGuardInRange P words base (fail ∷ items) = Unit {0}
