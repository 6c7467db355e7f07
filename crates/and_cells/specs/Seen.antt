-- What contracts see in cells, and what one step on a word changes in it (this project's own).
-- Cells may be a view of a row that others set words of at the same time: so they say what is known, and not what
-- there is.
use Rattle.std.specs.Prelude.{ℕ, suc, ◌<◌, ◌≤◌, ◌≡◌, ◌≢◌, ◌↔◌, ◌⊎◌, true, false, List, [], ◌∷◌, ◌++◌, map, length}
use Rattle.std.specs.Prelude.{Option, Some, None, slice_index_or, slice_set, All, Contains, IfSome, ℤ}
use Rattle.std.specs.Option.{option_map}
use Rattle.and_model.specs.Prefixes.{IsPrefix}
use Rattle.and_model.specs.Store.{Known, Missed, word, AreDistinct}
use Rattle.and_model.specs.declared.reference.Ref.{Ref}
use Rattle.and_model.specs.declared.reference.Ref.TheVariants.{Free, Cell, Node, Number, Half}
use Rattle.and_cells.specs.Ranges.{NamedProgram, CanHold}
use Rattle.and_cells.specs.Numbers.{number_of, high_half, low_half}

pub record Seen : Type 0 where
  -- how many words the row has
  pub words : ℕ
  -- the row, where it is told; it is then set by these cells alone
  pub told : Option (List Ref)
  -- the settings that were made or learnt, in that order
  pub known : List Known
  -- what looks found free of the words that others may set
  pub missed : List Missed

-- the word at a place of a row
abbrev pub word_at : List Ref → (place : ℕ) → Ref
word_at row place = slice_index_or row place Free

-- the word at this place is set to r
abbrev pub IsSetTo : List Ref → (place : ℕ) → Ref → Type 0
IsSetTo row place r = (word_at row place ≡ r) × (r ≢ Free)

-- The later row has what is set in the earlier one, and may be longer.
pub record Grows (old new : List Ref) : Type 0 where
  pub longer : length old ≤ length new
  pub set : (place : ℕ) (r : Ref) → IsSetTo old place r → IsSetTo new place r

-- these cells are free
abbrev pub AreFree : List Ref → List ℕ → Type 0
AreFree row cells = All (λ (cell : ℕ). word_at row cell ≡ Free) cells

abbrev pub IsAmong : Option (List Ref) → List Known → (place : ℕ) → Ref → Type 0
IsAmong None known place r = Contains (map (λ (k : Known). k.setting) known) (record { place = place; value = r })
IsAmong (Some row) known place r = IsSetTo row place r

-- The word at this place is known to be set to r: the row that is told has it so, or where none is told, it was made
-- or learnt.
abbrev pub Knows : Seen → (place : ℕ) → Ref → Type 0
Knows s place r = IsAmong s.told s.known place r

-- A pair is known to be written where both its words are known to be set, or some cell is known to be set to this
-- number.
abbrev pub IsKnownWritten : Seen → (pair : ℕ) → Type 0
IsKnownWritten s pair = (((high : Ref) × Knows s pair high) × ((low : Ref) × Knows s (suc pair) low))
    ⊎ ((cell : ℕ) × Knows s cell (Number pair))

-- the number that the reference is, if it is one, is known to be written
abbrev pub IsWrittenIfNumber : Seen → Ref → Type 0
IsWrittenIfNumber s r = (pair : ℕ) → r ≡ Number pair → IsKnownWritten s pair

-- a list stays, or gains this at its end
abbrev pub Gains : List Known → List Known → Known → Type 0
Gains old new k = (new ≡ old) ⊎ (new ≡ old ++ k ∷ [])

-- What is known from now on is what was known, and that this place has r.
abbrev pub Adds : (place : ℕ) → Ref → (old new : Seen) → Type 0
Adds place r old new = (p : ℕ) (q : Ref) → Knows new p q ↔ (Knows old p q ⊎ ((p ≡ place) × (q ≡ r)))

-- A step found the word at this place set to r, which is known from now on. If it was known, it was known so.
pub record Finds (P : NamedProgram) (place : ℕ) (r : Ref) (old new : Seen) : Type 0 where
  pub is_set : r ≢ Free
  pub fits : CanHold P old.words place r
  pub as_known : (q : Ref) → Knows old place q → r ≡ q
  pub adds : Adds place r old new
  pub gains : Gains old.known new.known (record { setting = record { place = place; value = r }; is_own = false })
  pub words : new.words ≡ old.words
  pub told : new.told ≡ old.told
  pub missed : new.missed ≡ old.missed

-- at most this place joins a list of what was found free
abbrev pub JoinsAtMost : (place : ℕ) → (old new : List Missed) → Type 0
JoinsAtMost place old new = (new ≡ old) ⊎ (new ≡ old ++ word place ∷ [])

-- A step found the word at this place free: it was not known to be set, and where the row is told, its word is free.
-- If others may set the word too (those below `shared`), the place stands in `missed` from now on.
pub record Misses (shared place : ℕ) (old new : Seen) : Type 0 where
  pub not_known : (q : Ref) → Knows old place q → ⊥
  pub free : IfSome old.told (λ row. word_at row place ≡ Free)
  pub known : new.known ≡ old.known
  pub words : new.words ≡ old.words
  pub told : new.told ≡ old.told
  pub missed : JoinsAtMost place old.missed new.missed
  pub noted : place < shared → Contains new.missed (word place)

-- A step found the word at this place free, and set it to r. Where the row is told, this word alone changes.
pub record Sets (place : ℕ) (r : Ref) (old new : Seen) : Type 0 where
  pub not_known : (q : Ref) → Knows old place q → ⊥
  pub free : IfSome old.told (λ row. word_at row place ≡ Free)
  pub adds : Adds place r old new
  pub gains : Gains old.known new.known (record { setting = record { place = place; value = r }; is_own = true })
  pub words : new.words ≡ old.words
  pub told : new.told ≡ option_map (λ row. slice_set row place r) old.told
  pub missed : JoinsAtMost place old.missed new.missed

-- a step set the word at this place to that half of a number, or found it set: r is what the word is now
abbrev pub Fills : NamedProgram → (place : ℕ) (half r : Ref) → (old new : Seen) → Type 0
Fills P place half r old new = (Sets place r old new × (r ≡ half)) ⊎ Finds P place r old new

-- Each word of the pair was set to its half of the value, or found set. The result is the number that the pair holds
-- now, and is the value where the two words are its halves, as they are where no word of the pair was set but by
-- these steps.
pub record WritesNumber (P : NamedProgram) (pair : ℕ) (value result : ℤ) (old new : Seen) : Type 0 where
  pub high : Ref
  pub low : Ref
  pub between : Seen
  pub first : Fills P pair (high_half value) high old between
  pub second : Fills P (suc pair) (low_half value) low between new
  pub holds : result ≡ number_of high low
  pub as_given : high ≡ high_half value → low ≡ low_half value → result ≡ value
  -- So what is known stays known, and nothing else than these two words becomes known.
  pub words : new.words ≡ old.words
  pub knows : (place : ℕ) (r : Ref) → Knows new place r
      ↔ (Knows old place r ⊎ ((place ≡ pair) × (r ≡ high)) ⊎ ((place ≡ suc pair) × (r ≡ low)))

-- Both words of the pair were found set, and the result is the number that they hold. No other word became known.
pub record ReadsNumber (P : NamedProgram) (pair : ℕ) (result : ℤ) (old new : Seen) : Type 0 where
  pub high : Ref
  pub low : Ref
  pub high_known : Knows new pair high
  pub low_known : Knows new (suc pair) low
  pub fits : CanHold P old.words pair high × CanHold P old.words (suc pair) low
  pub holds : result ≡ number_of high low
  pub only : (place : ℕ) (r : Ref) → Knows new place r → Knows old place r ⊎ (place ≡ pair) ⊎ (place ≡ suc pair)

-- Whatever steps were made: what is known stays known, and the lists only grow at their ends.
pub record Keeps (old new : Seen) : Type 0 where
  pub knows : (place : ℕ) (r : Ref) → Knows old place r → Knows new place r
  pub known : IsPrefix old.known new.known
  pub missed : IsPrefix old.missed new.missed
  pub words : new.words ≡ old.words

-- Steps that set no word: what is known stays known, and the list of it gains only what was learnt.
pub record OnlyReads (old new : Seen) : Type 0 where
  pub keeps : (place : ℕ) (r : Ref) → Knows old place r → Knows new place r
  pub learnt : List Known
  pub gains : new.known ≡ old.known ++ learnt
  pub none_own : All (λ (k : Known). k.is_own ≡ false) learnt
  pub words : new.words ≡ old.words
  pub told : new.told ≡ old.told
  pub missed : IsPrefix old.missed new.missed

-- From one reference another is reached, by cells that are known to be set.
pub data LeadsTo (s : Seen) : Ref → Ref → Type 0 where
  here : (r : Ref) → LeadsTo s r r
  onward : (cell : ℕ) (r to : Ref) → Knows s cell r → LeadsTo s r to → LeadsTo s (Cell cell) to

-- The last look of these steps found the cell free.
pub record FoundFree (shared cell : ℕ) (old new : Seen) : Type 0 where
  pub before : Seen
  pub reads : OnlyReads old before
  pub misses : Misses shared cell before new

-- Where a chain ends: at a node, a number, a cell that the last look found free, or a half.
abbrev pub EndsAt : (shared : ℕ) → Ref → (old new : Seen) → Type 0
EndsAt shared Free old new = ⊥
EndsAt shared (Cell cell) old new = FoundFree shared cell old new
EndsAt shared (Node node base) old new = Unit {0}
EndsAt shared (Number pair) old new = Unit {0}
EndsAt shared (Half bits) old new = Unit {0}

-- What holds of whatever is seen in cells: nothing is known twice, and a row that is told is whole and has what is
-- known.
pub record IsCoherent (s : Seen) : Type 0 where
  pub once : AreDistinct (map (λ (k : Known). k.setting.place) s.known)
  pub whole : IfSome s.told (λ row. length row ≡ s.words)
  pub in_row : IfSome s.told (λ row. All (λ (k : Known). IsSetTo row k.setting.place k.setting.value) s.known)
