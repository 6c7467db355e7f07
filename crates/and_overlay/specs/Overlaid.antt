-- What contracts see in cells over other cells, which keep to themselves what is set (this project's own).
use Rattle.std.specs.Prelude.{ℕ, suc, ◌+◌, ◌<◌, ◌≡◌, ◌≢◌, ◌⊎◌, Bool, true, false, not, cond, List, [], ◌∷◌, ◌++◌, map}
use Rattle.std.specs.Prelude.{filter, length, take, drop, replicate, slice_set, nat_eq, All, Contains, ◌≤◌}
use Rattle.std.specs.Option.{option_map}
use Rattle.and_model.specs.Store.{Known, word, AreDistinct}
use Rattle.and_model.specs.declared.reference.Ref.{Ref}
use Rattle.and_model.specs.declared.reference.Ref.TheVariants.{Free, Number}
use Rattle.and_cells.specs.Ranges.{NamedProgram, CanHold}
use Rattle.and_cells.specs.Seen.{Seen, Knows, IsSetTo, IsCoherent, word_at}

-- A setting of an overlay: its place, its value, and what was known in the cells below when it was made.
pub record Own : Type 0 where
  pub place : ℕ
  pub value : Ref
  pub before : List Known

-- Lists of such settings are given with the newest first.

abbrev pub is_own : List Own → (place : ℕ) → Bool
is_own [] place = false
is_own (o ∷ own) place = cond (nat_eq o.place place) true (is_own own place)

-- of what was learnt in the cells below, what is not set by the overlay
abbrev pub not_own : List Own → List Known → List Known
not_own own known = filter (λ (k : Known). not (is_own own k.setting.place)) known

abbrev pub own_known : Own → Known
own_known o = record { setting = record { place = o.place; value = o.value }; is_own = true }

-- What is known: what was before the newest setting, this setting, and what was learnt in the cells below since.
abbrev pub known_over : List Own → List Known → List Known
known_over [] known = known
known_over (o ∷ own) known = known_over own o.before ++ own_known o ∷ not_own (o ∷ own) (drop (length o.before) known)

-- the row with the overlay's settings
abbrev pub row_over : List Own → List Ref → List Ref
row_over [] row = row
row_over (o ∷ own) row = slice_set (row_over own row) o.place o.value

-- the cells below with a frame of so many words behind them, the overlay's settings, and the places that it found
-- free below
abbrev pub seen_over : Seen → (frame : ℕ) → List Own → (looked : List ℕ) → Seen
seen_over s frame own looked = record {
  words = s.words + frame;
  told = option_map (λ row. row_over own (row ++ replicate frame Free)) s.told;
  known = known_over own s.known;
  missed = map word looked;
}

abbrev pub IsUnknown : Seen → (place : ℕ) → Type 0
IsUnknown s place = (r : Ref) → Knows s place r → ⊥

-- Each setting was made later than the one before it, of a word that was not known to be set in the cells below.
abbrev pub AreLate : List Own → List Known → Type 0
AreLate [] known = Unit {0}
AreLate (o ∷ own) known =
    (o.before ≡ take (length o.before) known) × ((r : Ref) → Contains (map (λ (k : Known). k.setting) o.before)
    (record { place = o.place; value = r }) → ⊥)
    × AreLate own o.before

-- what is known of some cells names places of theirs, and fits there
abbrev pub IsKnownFit : NamedProgram → Seen → Type 0
IsKnownFit P s = (place : ℕ) (r : Ref) → Knows s place r → (place < s.words) × CanHold P s.words place r

-- Where a cell is set to a number and a word of the pair is not known, some cell below is known to be set to this
-- number.
abbrev pub AreWrittenBelow : Seen → (over : Seen) → List Own → Type 0
AreWrittenBelow s over own =
    (o : Own) → Contains own o → (pair place : ℕ) → o.value ≡ Number pair → (place ≡ pair) ⊎ (place ≡ suc pair)
    → IsUnknown over place
    → ((cell : ℕ) → Knows s cell (Number pair) → ⊥) → ⊥

-- the place is on the list
abbrev pub stands_in : List ℕ → (place : ℕ) → Bool
stands_in [] place = false
stands_in (p ∷ places) place = cond (nat_eq p place) true (stands_in places place)

-- What an overlay keeps.
pub record IsOver (P : NamedProgram) (s : Seen) (frame : ℕ) (own : List Own) (looked : List ℕ) : Type 0 where
  pub apart : AreDistinct (map (λ (o : Own). o.place) own)
  pub set : All (λ (o : Own). o.value ≢ Free) own
  pub low : All (λ (o : Own). o.place < s.words + frame) own
  pub fits : All (λ (o : Own). CanHold P (s.words + frame) o.place o.value) own
  pub late : AreLate own s.known
  pub below : IsKnownFit P s
  pub written : AreWrittenBelow s (seen_over s frame own looked) own
  pub looked_low : All (λ (place : ℕ). place < s.words) looked
  -- what is set of the cells below was found free there
  pub noted : All (λ (o : Own). o.place < s.words → stands_in looked o.place ≡ true) own
  pub coherent : IsCoherent (seen_over s frame own looked)

-- Of what was seen of a row there is more in a later one: all that was known is set in it so, and these places are
-- free still.
pub record GoesOn (s : Seen) (looked : List ℕ) (later : List Ref) : Type 0 where
  pub longer : s.words ≤ length later
  pub set : (place : ℕ) (r : Ref) → Knows s place r → IsSetTo later place r
  pub free : (place : ℕ) → Contains looked place → word_at later place ≡ Free

-- What a look told of a word: what it is known to be, or that it is free, which is noted of the places below so many
-- words.
abbrev pub WasTold : Seen → (behind place : ℕ) → Ref → Type 0
WasTold s behind place r = Knows s place r
    ⊎ ((r ≡ Free) × IsUnknown s place × (place < behind → Contains s.missed (word place)))
