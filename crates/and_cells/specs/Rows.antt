-- Rows of words that are told (this project's own).
use Rattle.std.specs.Prelude.{ℕ, suc, ◌<◌, ◌/◌, ◌%◌, ◌^◌, ◌≤◌, ◌≡◌, ◌≢◌, ◌⊎◌, cond, List, [], ◌∷◌, map, length, take}
use Rattle.std.specs.Prelude.{slice_set, Some, nat_eq, All, Contains}
use Rattle.and_model.specs.declared.limits.TheConstants.{MAX_WORDS}
use Rattle.and_model.specs.Words.{HasWord, word_of}
use Rattle.and_model.specs.declared.reference.Ref.{Ref}
use Rattle.and_model.specs.declared.reference.Ref.TheVariants.{Free, Cell, Node, Number, Half}
use Rattle.and_cells.specs.Ranges.{NamedProgram, CanHold}
use Rattle.and_cells.specs.Seen.{Seen, word_at}

-- what contracts see of a row that is told (what is known of it are its set words, so nothing is listed)
abbrev pub plain : List Ref → Seen
plain row = record { words = length row; told = Some row; known = []; missed = [] }

-- What each row keeps: a word names what is in range, a cell that is set to a cell is set to one before it,
-- a number is set only where both words of its pair are, and there are not too many words.
pub record IsSound (P : NamedProgram) (row : List Ref) : Type 0 where
  pub fits : (place : ℕ) → CanHold P (length row) place (word_at row place)
  pub written : (place pair : ℕ) → word_at row place ≡ Number pair
      → (word_at row pair ≢ Free) × (word_at row (suc pair) ≢ Free)
  pub short : length row ≤ MAX_WORDS

-- the reference that has this word, and `Free` where none has it
abbrev pub ref_of : ℕ → Ref
ref_of w =
    cond (nat_eq (w % 8) 1) (Cell (w / 8))
    (cond (nat_eq (w % 8) 2) (Node (record { 0 = w / 8 / 2 ^ 23 }) (w / 8 % 2 ^ 23))
    (cond (nat_eq (w % 8) 3) (Number (w / 8))
    (cond (nat_eq (w % 8) 4) (Half (w / 8)) Free)))

-- the row that is kept in these words
abbrev pub row_of : List ℕ → List Ref
row_of ws = map ref_of ws

-- each of these numbers is the word of a reference
abbrev pub AreWords : List ℕ → Type 0
AreWords ws = All (λ w. HasWord (ref_of w) × (word_of (ref_of w) ≡ w)) ws

-- The reference is a structure whose frame begins below the floor, or a number.
abbrev pub IsBelow : (floor : ℕ) → Ref → Type 0
IsBelow floor Free = ⊥
IsBelow floor (Cell cell) = ⊥
IsBelow floor (Node node base) = base < floor
IsBelow floor (Number pair) = Unit {0}
IsBelow floor (Half bits) = ⊥

-- a list in which this value stands at each of these places
abbrev pub all_set : {X : Type 0} → X → (places : List ℕ) → List X → List X
all_set x [] xs = xs
all_set x (place ∷ places) xs = all_set x places (slice_set xs place x)

-- the row as it was when it had so many words and these cells were free
abbrev pub taken_back : List Ref → (cells : List ℕ) → (words : ℕ) → List Ref
taken_back row cells words = all_set Free cells (take words row)

-- After the row `before`, nothing was done but that some of these cells, all of them free, were set, and that words
-- were put behind.
pub record OnlySet (cells : List ℕ) (before after : List Ref) : Type 0 where
  pub longer : length before ≤ length after
  pub free : (cell : ℕ) → Contains cells cell → cell < length before → word_at before cell ≡ Free
  pub others : (place : ℕ) → place < length before → (word_at after place ≡ word_at before place) ⊎ Contains cells place
