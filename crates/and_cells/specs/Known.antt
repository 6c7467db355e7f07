-- What the words that are known to be set say of the cells, whatever the others are.
use Rattle.std.specs.Prelude.{ℕ, ◌≡◌, false, List, Contains}
use Rattle.and_model.specs.Terms.{Substitution}
use Rattle.and_model.specs.Solutions.{Solves}
use Rattle.and_model.specs.Store.{Known, is_half}
use Rattle.and_model.specs.declared.reference.Ref.{Ref}
use Rattle.and_model.specs.declared.reference.Ref.TheVariants.{Cell}
use Rattle.and_cells.specs.Ranges.{NamedProgram}
use Rattle.and_cells.specs.Seen.{Seen, Knows}
use Rattle.and_cells.specs.Meaning.{Words, equations_between}

-- these words have all that is known
abbrev pub HasKnown : Seen → Words → Type 0
HasKnown s w = (place : ℕ) (r : Ref) → Knows s place r → w place ≡ r

-- each cell that is known to be set, but to no half, is what it is set to
abbrev pub SolvesKnown : NamedProgram → Words → Seen → Substitution → Type 0
SolvesKnown P w s t = (place : ℕ) (r : Ref) → Knows s place r → is_half r ≡ false
    → Solves t (equations_between P w (Cell place) r)

-- the same for the settings of a list
abbrev pub SolvesSettings : NamedProgram → Words → List Known → Substitution → Type 0
SolvesSettings P w known t = (k : Known) → Contains known k → is_half k.setting.value ≡ false
    → Solves t (equations_between P w (Cell k.setting.place) k.setting.value)
