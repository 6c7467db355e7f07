-- What contracts see of a store and of its passes (this project's own).
use Rattle.std.specs.Prelude.{ℕ, zero, suc, ◌+◌, ◌*◌, ◌≡◌, ◌≢◌, ◌<◌, ◌≤◌, Bool, true, false, List, [], ◌∷◌, map}
use Rattle.std.specs.Prelude.{length, None, All}
use Rattle.atomic_table.specs.Seated.{TableId}
use Rattle.and_model.specs.Store.{Pass, HungGoal, Known, Frame, AreDistinct}
use Rattle.and_model.specs.Words.{HasWord}
use Rattle.and_model.specs.declared.reference.Ref.{Ref}
use Rattle.and_model.specs.declared.reference.Ref.TheVariants.{Free, Number}
use Rattle.and_cells.specs.Ranges.{NamedProgram, CanHold}
use Rattle.and_store_laws.specs.AtWork.{over}
use Rattle.and_store_laws.specs.Steps.{KnowsWritten, blank}
use Rattle.and_store.specs.Sight.{About, Sight, IsModest}
use Rattle.and_store.specs.Told.{mine_of, IsAlone, waiters_of}

-- which store it is, and what it was opened with
pub record StoreId : Type 0 where
  pub table : TableId
  pub about : About

-- A pass: the store that it is of, its lists, and the waiters that it took and whose goals it has not handed out yet.
pub record PassSeen : Type 0 where
  pub store : StoreId
  pub pass : Pass
  pub kept : List ℕ

-- the end of the frame that was given last
abbrev pub last_end : List Frame → ℕ
last_end [] = 0
last_end (f ∷ []) = f.base + f.weight
last_end (f ∷ g ∷ frames) = last_end (g ∷ frames)

-- how many words the table of a store has
abbrev pub size_of : About → ℕ
size_of a = a.words + (a.words + (2 * (a.seats * a.waiters) + 2))

-- so many numbers, from this one on
abbrev pub numbers_from : (first count : ℕ) → List ℕ
numbers_from first zero = []
numbers_from first (suc count) = first ∷ numbers_from (suc first) count

-- What a pass keeps beside its seat: its number, how many goals it hung, whether it was refused a frame, the end of
-- its last frame, the waiters that it took, for how many of them there is room, and how many of them it handed out.
pub record IsPass (v : Sight) (number hung : ℕ) (refused : Bool) (frames_end : ℕ) (taken : List ℕ)
    (room handed : ℕ) : Type 0 where
  pub alone : IsAlone v
  pub share : v.seat.shares ≡ 1
  pub nothing_noted : v.noted ≡ []
  pub at_rest : (mine_of v).pending ≡ None
  pub modest : IsModest v.about
  pub number_is : (mine_of v).pass.number ≡ number
  pub number_below : number < v.about.seats
  pub hung_are : length (mine_of v).pass.hung ≡ hung
  pub hung_fit : hung ≤ v.about.waiters
  -- It hung its goals under its waiters in turn.
  pub in_turn : map (λ (g : HungGoal). g.waiter) (mine_of v).pass.hung ≡ numbers_from (number * v.about.waiters) hung
  pub refused_is : refused ≡ false → over v.about.words (mine_of v).pass.asked ≡ []
  pub refused_was : refused ≡ true → over v.about.words (mine_of v).pass.asked ≢ []
  pub ends : frames_end ≡ last_end (mine_of v).pass.frames
  pub ends_fit : frames_end ≤ v.about.words
  pub taken_are : taken ≡ waiters_of (mine_of v).pass.took
  pub below : All (λ waiter. waiter < v.about.seats * v.about.waiters) taken
  pub enough : v.about.seats * v.about.waiters ≤ room
  pub handed_out : handed ≤ length taken
  pub once : AreDistinct (map (λ (k : Known). k.setting.place) (mine_of v).pass.known)

-- What a store keeps beside its table.
pub record IsStore (table : TableId) (about : About) (first words seats waiters : ℕ) : Type 0 where
  pub first_is : length about.first ≡ first
  pub first_fits : first ≤ words
  pub words_are : about.words ≡ words
  pub seats_are : about.seats ≡ seats
  pub waiters_are : about.waiters ≡ waiters
  pub modest : IsModest about
  pub size : table.words ≡ size_of about
  pub no_slots : table.slots ≡ 0

-- The pass may set the word at this place so.
pub record CanSet (P : NamedProgram) (words place : ℕ) (to : Ref) (known : List Known) : Type 0 where
  pub is_set : to ≢ Free
  pub named : HasWord to
  pub fits : CanHold P words place to
  pub written : (pair : ℕ) → to ≡ Number pair → KnowsWritten known pair

-- ---- passes that were dealt out just now

-- the seat of the pass with this number; the first one has dealt out the others
abbrev pub newly_dealt : About → (number : ℕ) → Sight → Type 0
newly_dealt a number v = (v.about ≡ a) × (v.seat.shares ≡ 1) × (v.seat.members ≡ blank number ∷ []) × (v.noted ≡ [])

-- a pass that has done nothing
abbrev pub fresh : StoreId → (number : ℕ) → PassSeen
fresh store number = record { store = store; pass = (blank number).pass; kept = [] }

-- so many passes that have done nothing, of which the first has this number, in the order of their numbers
abbrev pub fresh_from : StoreId → (number count : ℕ) → List PassSeen
fresh_from store number zero = []
fresh_from store number (suc count) = fresh store number ∷ fresh_from store (suc number) count
