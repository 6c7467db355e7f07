-- What the passes of a store do and learn, and the row of words that they leave (this project's own).
-- A row is a list of words, each free or set. Each word is set at most once, by one of several passes that work at
-- the same time.
use Rattle.std.specs.Prelude.{ℕ, suc, ◌+◌, ◌≡◌, ◌≢◌, ◌<◌, ◌≤◌, ◌↔◌, Bool, true, false, not, cond, List, [], ◌∷◌, ◌++◌}
use Rattle.std.specs.Prelude.{map, filter, flat_map, length, sum_by, Option, Some, option_to_list, nat_eq, All}
use Rattle.std.specs.Prelude.{AllPairs, Contains}
use Rattle.and_model.specs.Prefixes.{IsPrefix}
use Rattle.and_model.specs.declared.goal.Goal.{Goal}
use Rattle.and_model.specs.declared.reference.Ref.{Ref}
use Rattle.and_model.specs.declared.reference.Ref.TheVariants.{Free, Cell, Node, Number, Half}

-- a word's place in the row, and its value
pub record Setting : Type 0 where
  pub place : ℕ
  pub value : Ref

-- a frame: its words begin at the base, and are as many as it weighs
pub record Frame : Type 0 where
  pub base : ℕ
  pub weight : ℕ

-- a goal that was hung on a cell, under the number of a waiter
pub record HungGoal : Type 0 where
  pub waiter : ℕ
  pub cell : ℕ
  pub goal : Goal

-- what a step can make: a setting, a frame that was given, a call of `fail`, a goal that was hung
pub data Made : Type 0 where
  sets : Setting → Made
  gives : Frame → Made
  fails : Made
  hangs : HungGoal → Made

-- an entry of the journal, which names the pass whose step it was
pub record JournalEntry : Type 0 where
  pub pass : ℕ
  pub made : Made

-- a setting that a pass knows: its own, or one that it learnt of
pub record Known : Type 0 where
  pub setting : Setting
  pub is_own : Bool

-- a raise of the mark: the mark that was found, and the weight by which it was raised
pub record Asked : Type 0 where
  pub mark : ℕ
  pub weight : ℕ

-- what a look found free: a word of the row; or down: the word that says whether some pass failed
pub data Missed : Type 0 where
  word : (place : ℕ) → Missed
  fail_word : Missed

-- the waiting place beside a cell
pub data Waiting : Type 0 where
  empty : Waiting
  occupied : (waiter : ℕ) → Waiting
  closed : Waiting

-- a cell whose waiting place was closed, with the waiter that was there
pub record Took : Type 0 where
  pub cell : ℕ
  pub waiter : Option ℕ

-- a goal could not be hung on a cell, because its waiting place was not empty
pub record Found : Type 0 where
  pub cell : ℕ
  pub place : Waiting

-- A pass: its number, by which entries name it, and ten lists.
pub record Pass : Type 0 where
  pub number : ℕ
  -- the journal, as the pass's last step left it
  pub seen : List JournalEntry
  -- the settings that it made or learnt of, each once
  pub known : List Known
  -- those that it made
  pub mine : List Setting
  -- the frames that it was given
  pub frames : List Frame
  -- its raises of the mark, whether they gave a frame or not
  pub asked : List Asked
  -- its calls of `fail`
  pub fails : List (Unit {0})
  -- what its looks found free or down
  pub missed : List Missed
  -- the goals that it hung
  pub hung : List HungGoal
  -- the cells whose places it closed
  pub took : List Took
  -- where it could not hang a goal
  pub found : List Found

abbrev pub settings_of : List JournalEntry → List Setting
settings_of journal = flat_map
    (λ (e : JournalEntry). elim e.made [ sets s ↦ s ∷ [] | gives f ↦ [] | fails ↦ [] | hangs g ↦ [] ]) journal

abbrev pub frames_of : List JournalEntry → List Frame
frames_of journal = flat_map
    (λ (e : JournalEntry). elim e.made [ sets s ↦ [] | gives f ↦ f ∷ [] | fails ↦ [] | hangs g ↦ [] ]) journal

abbrev pub fails_of : List JournalEntry → List (Unit {0})
fails_of journal = flat_map
    (λ (e : JournalEntry). elim e.made [ sets s ↦ [] | gives f ↦ [] | fails ↦ tt ∷ [] | hangs g ↦ [] ]) journal

abbrev pub hung_of : List JournalEntry → List HungGoal
hung_of journal = flat_map
    (λ (e : JournalEntry). elim e.made [ sets s ↦ [] | gives f ↦ [] | fails ↦ [] | hangs g ↦ g ∷ [] ]) journal

-- the entries of one pass
abbrev pub entries_by : Pass → List JournalEntry → List JournalEntry
entries_by p journal = filter (λ (e : JournalEntry). nat_eq e.pass p.number) journal

abbrev pub is_free : Ref → Bool
is_free Free = true
is_free (Cell cell) = false
is_free (Node node base) = false
is_free (Number pair) = false
is_free (Half bits) = false

abbrev pub is_half : Ref → Bool
is_half Free = false
is_half (Cell cell) = false
is_half (Node node base) = false
is_half (Number pair) = false
is_half (Half bits) = true

abbrev pub set_from : (place : ℕ) → List Ref → List Setting
set_from place [] = []
set_from place (r ∷ row) =
    cond (is_free r) (set_from (suc place) row) (record { place = place; value = r } ∷ set_from (suc place) row)

-- the set words of a row
abbrev pub set_in : List Ref → List Setting
set_in row = set_from 0 row

-- the settings that a pass made, among those that it knows
abbrev pub own_of : List Known → List Setting
own_of known = map (λ (k : Known). k.setting) (filter (λ (k : Known). k.is_own) known)

-- both words of the pair are among the settings
abbrev pub IsWritten : List Setting → (pair : ℕ) → Type 0
IsWritten settings pair = Contains (map (λ (s : Setting). s.place) settings) pair
    × Contains (map (λ (s : Setting). s.place) settings) (suc pair)

-- the first frame begins at the base, and each other one where the one before it ends
abbrev pub SideBySide : (base : ℕ) → List Frame → Type 0
SideBySide base [] = Unit {0}
SideBySide base (f ∷ frames) = (f.base ≡ base) × SideBySide (base + f.weight) frames

-- the mark: where the row of the opening ends, and then all that was asked for
abbrev pub mark : List Ref → List Pass → ℕ
mark first passes = length first + sum_by (λ (p : Pass). sum_by (λ (a : Asked). a.weight) p.asked) passes

abbrev pub all_hung : List Pass → List HungGoal
all_hung passes = flat_map (λ (p : Pass). p.hung) passes

abbrev pub all_took : List Pass → List Took
all_took passes = flat_map (λ (p : Pass). p.took) passes

-- no two of the list are the same
abbrev pub AreDistinct : List ℕ → Type 0
AreDistinct ns = AllPairs (λ n m. n ≢ m) ns

-- What holds of a pass, where the row began with this one and the mark stands at this number.
pub record Fits (first : List Ref) (mark : ℕ) (journal : List JournalEntry) (p : Pass) : Type 0 where
  -- What it has seen is a prefix of the journal.
  pub seen : IsPrefix p.seen journal
  -- What it made is what its own entries say, in order.
  pub settings : p.mine ≡ settings_of (entries_by p journal)
  pub frames : p.frames ≡ frames_of (entries_by p journal)
  pub fails : p.fails ≡ fails_of (entries_by p journal)
  pub hung : p.hung ≡ hung_of (entries_by p journal)
  -- Every setting that it knows is in the first row or in what it has seen. The own ones are those that it made. None
  -- is known twice.
  pub known : All (λ (k : Known). Contains (set_in first ++ settings_of p.seen) k.setting) p.known
  pub own : p.mine ≡ own_of p.known
  pub known_once : AreDistinct (map (λ (k : Known). k.setting.place) p.known)
  -- No mark that it found, with the weight that it asked for, is above the mark.
  pub asked : All (λ (a : Asked). a.mark + a.weight ≤ mark) p.asked

-- The cells whose places a pass closed are those that it set to something that is no half of a number, in order.
-- (While it sets a cell, between the step that sets the word and the one that closes the place, the last one is
-- missing.)
abbrev pub HasClosed : Pass → Type 0
HasClosed p = map (λ (t : Took). t.cell) p.took
    ≡ map (λ (s : Setting). s.place) (filter (λ (s : Setting). not (is_half s.value)) p.mine)

-- Row first passes journal row: what holds between the opening's row, all passes, the journal and the row at the end.
pub record Row (first : List Ref) (passes : List Pass) (journal : List JournalEntry) (row : List Ref) : Type 0 where
  -- The set words of the row are those of the opening's row and those of the journal's settings,
  pub set_words : (s : Setting) → Contains (set_in row) s ↔ Contains (set_in first ++ settings_of journal) s
  -- and no place occurs twice.
  pub set_once : AreDistinct (map (λ (s : Setting). s.place) (set_in first ++ settings_of journal))
  -- Each pass has seen, made, learnt and asked for what it may,
  pub passes_fit : All (Fits first (mark first passes) journal) passes
  -- and closed what it should.
  pub closed : All HasClosed passes
  -- Every entry names one of the passes, and no two have one number.
  pub by_a_pass : All (λ (e : JournalEntry). Contains (map (λ (p : Pass). p.number) passes) e.pass) journal
  pub numbered : AreDistinct (map (λ (p : Pass). p.number) passes)
  -- A cell that is set to a cell is set to one with a smaller number.
  pub falls : (s : Setting) → Contains (set_in row) s → (cell : ℕ) → s.value ≡ Cell cell → cell < s.place
  -- Where a cell is set to a number, both words of the pair are set in the opening's row or in earlier entries.
  pub written_first : (s : Setting) → Contains (set_in first) s → (pair : ℕ) → s.value ≡ Number pair
      → IsWritten (set_in first) pair
  pub written : (before after : List JournalEntry) (e : JournalEntry) → journal ≡ before ++ e ∷ after
      → (s : Setting) → e.made ≡ sets s → (pair : ℕ) → s.value ≡ Number pair
      → IsWritten (set_in first ++ settings_of before) pair
  -- The frames lie side by side from the end of the opening's row, in the order of the journal.
  pub frames : SideBySide (length first) (frames_of journal)
  -- No waiter was hung twice, and none was taken twice.
  pub hung_once : AreDistinct (map (λ (g : HungGoal). g.waiter) (all_hung passes))
  pub taken_once : AreDistinct (flat_map (λ (t : Took). option_to_list t.waiter) (all_took passes))
  -- A waiter that was taken was hung, on the same cell.
  pub taken_was_hung : (t : Took) → Contains (all_took passes) t → (waiter : ℕ) → t.waiter ≡ Some waiter
      → (g : HungGoal) × Contains (all_hung passes) g × (g.waiter ≡ waiter) × (g.cell ≡ t.cell)
  -- Where the cell of a goal that was hung was closed, the goal's waiter was taken with it.
  pub hung_is_taken : (g : HungGoal) (t : Took) → Contains (all_hung passes) g → Contains (all_took passes) t
      → t.cell ≡ g.cell → t.waiter ≡ Some g.waiter
