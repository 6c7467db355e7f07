-- What a store leaves (this project's own).
use Rattle.std.specs.Prelude.{ℕ, ◌-◌, ◌≡◌, ◌≢◌, ◌≤◌, ◌↔◌, ◌⊎◌, Bool, true, List, [], ◌∷◌, map, length, All, Contains}
use Rattle.and_model.specs.Store.{JournalEntry, Setting, Pass, Row, set_in}
use Rattle.and_model.specs.declared.reference.Ref.{Ref}
use Rattle.and_model.specs.declared.reference.Ref.TheVariants.{Free}
use Rattle.and_cells.specs.Ranges.{NamedProgram, CanHold}
use Rattle.and_store_laws.specs.AtWork.{IsAtRest, journal_of, pass_of, word_at}
use Rattle.and_store.specs.Passes.{PassSeen, last_end}
use Rattle.and_store.specs.Sight.{About, Sight}

abbrev pub passes_of : List PassSeen → List Pass
passes_of passes = map (λ (p : PassSeen). p.pass) passes

-- The seat has the shares and the passes of all these.
pub record IsGathered (a : About) (v : Sight) (passes : List PassSeen) : Type 0 where
  pub about : v.about ≡ a
  pub shares : v.seat.shares ≡ length passes
  pub members : map pass_of v.seat.members ≡ passes_of passes
  pub at_rest : IsAtRest v.seat.members

-- The end lies behind the opening's cells, and behind the last frame of each pass; and it is the end of one of them.
pub record LastEnds (a : About) (passes : List Pass) (end : ℕ) : Type 0 where
  pub first : length a.first ≤ end
  pub frames : All (λ (p : Pass). last_end p.frames ≤ end) passes
  pub of_one : (end ≡ length a.first) ⊎ ((p : Pass) × Contains passes p × (last_end p.frames ≡ end))

-- the journal, as the passes of the last seat have seen it
abbrev pub journal_in : List Sight → List JournalEntry
journal_in [] = []
journal_in (v ∷ vs) = journal_of v.seat.members

-- What holds of the row, the fail word and the journal that a store leaves.
pub record Closes (P : NamedProgram) (a : About) (passes : List Pass) (row : List Ref) (failed : Bool)
    (journal : List JournalEntry)
    : Type 0 where
  pub row_fits : Row a.first passes journal row
  -- What is set is in range of the words that the store had.
  pub fits : (s : Setting) → Contains (set_in row) s → CanHold P a.words s.place s.value
  -- The row ends behind the opening's cells, the frames and what is set, and no further; and within the words that
  -- the store had.
  pub least : ℕ
  pub least_is : LastEnds a passes least
  pub behind : least ≤ length row
  pub within : length row ≤ a.words
  pub no_longer : (length row ≡ least) ⊎ (word_at row (length row - 1) ≢ Free)
  -- It failed where some pass did.
  pub failed_is : (failed ≡ true) ↔ ((p : Pass) × Contains passes p × (p.fails ≢ []))
