-- What is true of words, and of a substitution that gives the terms of cells.
use Rattle.std.specs.Prelude.{ℕ, ◌≡◌, ◌⊎◌, false, List, Contains, Some}
use Rattle.and_model.specs.Terms.{Term, Substitution}
use Rattle.and_model.specs.Store.{Known, is_half}
use Rattle.and_model.specs.declared.numbers.NodeNo.{NodeNo}
use Rattle.and_model.specs.declared.reference.Ref.{Ref}
use Rattle.and_model.specs.declared.reference.Ref.TheVariants.{Cell, Node}
use Rattle.and_cells.specs.Ranges.{NamedProgram, IsInRange, IsNoVariable}
use Rattle.and_cells.specs.Seen.{Seen, Knows, IsWrittenIfNumber}
use Rattle.and_cells.specs.Meaning.{Words, shallow_cells}
use Rattle.and_cells.specs.Joined.{value}
use Rattle.and_unify.specs.declared.pairs.Pair.{Pair}

-- The reference has this term, and names no word of a pair.
pub record Denotes (P : NamedProgram) (w : Words) (t : Substitution) (r : Ref) (u : Term) : Type 0 where
  pub is : value P w t r ≡ Some u
  pub whole : (cell : ℕ) → Contains (shallow_cells P r) cell → is_half (w cell) ≡ false

-- two references have one term
abbrev pub AreOne : NamedProgram → Words → Substitution → Ref → Ref → Type 0
AreOne P w t r q = (u : Term) × Denotes P w t r u × Denotes P w t q u

-- the reference is no node that is a variable
abbrev pub IsNamed : NamedProgram → Ref → Type 0
IsNamed P r = (node : NodeNo) (base : ℕ) → r ≡ Node node base → IsNoVariable P node.0

-- A setting is true: it is the word that is there, or neither is a half; and unless a half is there, the cell has the
-- term of what it is set to.
pub record IsTrue (P : NamedProgram) (w : Words) (t : Substitution) (place : ℕ) (r : Ref) : Type 0 where
  pub alike : (r ≡ w place) ⊎ ((is_half r ≡ false) × (is_half (w place) ≡ false))
  pub named : IsNamed P r
  pub one : is_half (w place) ≡ false → AreOne P w t (Cell place) r

-- all that is known is true
abbrev pub AreTrue : NamedProgram → Words → Substitution → Seen → Type 0
AreTrue P w t s = (place : ℕ) (r : Ref) → Knows s place r → IsTrue P w t place r

-- what was learnt is true
abbrev pub LearntAreTrue : NamedProgram → Words → Substitution → Seen → Type 0
LearntAreTrue P w t s = (k : Known) → Contains s.known k → k.is_own ≡ false
    → IsTrue P w t k.setting.place k.setting.value

-- the sides of each pair have one term
abbrev pub ArePairsTrue : NamedProgram → Words → Substitution → List Pair → Type 0
ArePairsTrue P w t pairs = (p : Pair) → Contains pairs p → AreOne P w t p.left p.right

-- A reference can be followed in cells: it is in range, and a number is written.
abbrev pub CanFollow : NamedProgram → Seen → Ref → Type 0
CanFollow P s r = IsInRange P s.words r × IsWrittenIfNumber s r

abbrev pub CanFollowPairs : NamedProgram → Seen → List Pair → Type 0
CanFollowPairs P s pairs = (p : Pair) → Contains pairs p → CanFollow P s p.left × CanFollow P s p.right

-- Where what was known before and what was learnt since is true, and the two have one term, all that is known now is
-- true.
abbrev pub KeepsTrue : NamedProgram → (left right : Ref) → (old new : Seen) → Type 0
KeepsTrue P left right old new =
    (w : Words) (t : Substitution) → AreTrue P w t old → LearntAreTrue P w t new
    → AreOne P w t left right → AreTrue P w t new

-- the same, and so it is with the pairs, if it was with those before
abbrev pub LeadsOn : NamedProgram → (left right : Ref) → (old new : Seen) → (before after : List Pair) → Type 0
LeadsOn P left right old new before after =
    (w : Words) (t : Substitution) → AreTrue P w t old → LearntAreTrue P w t new → AreOne P w t left right
    → ArePairsTrue P w t before
    → AreTrue P w t new × ArePairsTrue P w t after

-- The two never have one term, where what was known before and what was learnt since is true.
abbrev pub AreNeverOne : NamedProgram → (left right : Ref) → (old new : Seen) → Type 0
AreNeverOne P left right old new =
    (w : Words) (t : Substitution) → AreTrue P w t old → LearntAreTrue P w t new → AreOne P w t left right → ⊥
