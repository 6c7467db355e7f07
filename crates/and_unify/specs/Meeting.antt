-- What becomes of one pair.
use Rattle.std.specs.Prelude.{ℕ, ℤ, ◌≡◌, ◌≢◌, ◌<◌, ◌⊎◌, false, Some}
use Rattle.and_model.specs.Terms.{number}
use Rattle.and_model.specs.Store.{is_half}
use Rattle.and_model.specs.declared.reference.Ref.{Ref}
use Rattle.and_model.specs.declared.reference.Ref.TheVariants.{Cell}
use Rattle.and_cells.specs.Ranges.{NamedProgram, IsInRange}
use Rattle.and_cells.specs.Seen.{Seen, Finds, Sets, OnlyReads, LeadsTo, IsWrittenIfNumber}
use Rattle.and_cells.specs.Meaning.{Words, shallow_term}
use Rattle.and_cells.specs.Parts.{IsStructure}
use Rattle.and_cells.specs.Known.{HasKnown}
use Rattle.and_unify.specs.Pairs.{AreApart}

-- Looks alone led from the two sides to these two.
pub record Lead (left right : Ref) (old new : Seen) (one other : Ref) : Type 0 where
  pub reads : OnlyReads old new
  pub left_leads : LeadsTo new left one
  pub right_leads : LeadsTo new right other

-- It is a cell that is to be set to this: no word of a pair, and no cell that has the same or a larger number.
pub record IsToBeSet (cell : ℕ) (from to : Ref) : Type 0 where
  pub is : from ≡ Cell cell
  pub no_half : is_half to ≡ false
  pub falls : (other : ℕ) → to ≡ Cell other → other < cell

-- It is a cell that was found set to this.
pub record GoesOn (P : NamedProgram) (from to : Ref) (old new : Seen) : Type 0 where
  pub cell : ℕ
  pub is : from ≡ Cell cell
  pub finds : Finds P cell to old new

-- They are one reference, or two that have one number in all words that have what is known.
abbrev pub AreAlike : NamedProgram → Seen → Ref → Ref → Type 0
AreAlike P s one other =
    ((one ≡ other) × (is_half one ≡ false))
    ⊎ ((w : Words) → HasKnown s w → (z : ℤ) × (shallow_term P w one ≡ Some (number z))
    × (shallow_term P w other ≡ Some (number z)))

-- The sides led to the same.
pub record MeetAlike (P : NamedProgram) (left right : Ref) (old new : Seen) : Type 0 where
  pub one : Ref
  pub other : Ref
  pub lead : Lead left right old new one other
  pub alike : AreAlike P new one other

-- One side led to a cell that was free. It is set to what the other side led to.
pub record MeetFree (P : NamedProgram) (left right : Ref) (cell : ℕ) (old new : Seen) : Type 0 where
  pub one : Ref
  pub other : Ref
  pub to : Ref
  pub before : Seen
  pub lead : Lead left right old before one other
  pub differ : one ≢ other
  pub ends : ((one ≡ Cell cell) × (other ≡ to)) ⊎ ((other ≡ Cell cell) × (one ≡ to))
  pub below : cell < old.words
  pub in_range : IsInRange P old.words to
  pub written : IsWrittenIfNumber before to
  pub sets : Sets cell to before new

-- Two structures of one name and number of arguments, whose cells are among so many words.
pub record AreOfOneShape (P : NamedProgram) (words : ℕ) (one other : Ref) : Type 0 where
  pub name : ℕ
  pub count : ℕ
  pub left_is : IsStructure P one name count
  pub right_is : IsStructure P other name count
  pub left_in_range : IsInRange P words one
  pub right_in_range : IsInRange P words other

-- Both sides led to structures of one shape.
pub record MeetStructures (P : NamedProgram) (left right : Ref) (old new : Seen) (one other : Ref) : Type 0 where
  pub lead : Lead left right old new one other
  pub shape : AreOfOneShape P old.words one other

-- The sides led to two that are never the same.
pub record MeetApart (P : NamedProgram) (left right : Ref) (old new : Seen) (one other : Ref) : Type 0 where
  pub lead : Lead left right old new one other
  pub apart : AreApart P new one other
