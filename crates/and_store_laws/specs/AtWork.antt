-- What holds of a store at every moment, while passes work at it (this project's own).
-- `Row` of and_model says what holds at the close; here a pass may be inside `bind`, with a word set whose waiting
-- place it has not closed yet.
use Rattle.std.specs.Prelude.{ℕ, ◌+◌, ◌-◌, ◌*◌, ◌≡◌, ◌≢◌, ◌<◌, ◌≤◌, ◌↔◌, ◌⊎◌, Bool, true, false, not, cond, List, []}
use Rattle.std.specs.Prelude.{◌∷◌, ◌++◌, map, filter, flat_map, length, replicate, sum_by, Option, None, Some}
use Rattle.std.specs.Prelude.{option_to_list, nat_lt, slice_index_or, All, Contains, IfSome}
use Rattle.and_model.specs.Store.{Setting, Frame, HungGoal, Known, sets, hangs, JournalEntry, Asked, Waiting, empty}
use Rattle.and_model.specs.Store.{occupied, closed, Took, Found, Pass, Fits, Row, SideBySide, AreDistinct, IsWritten}
use Rattle.and_model.specs.Store.{settings_of, frames_of, fails_of, hung_of, entries_by, set_in, is_half, is_free}
use Rattle.and_cells.specs.Ranges.{NamedProgram, CanHold, IsGoalInRange}
use Rattle.and_cells.specs.Rows.{IsSound}
use Rattle.and_model.specs.declared.reference.Ref.{Ref}
use Rattle.and_model.specs.declared.reference.Ref.TheVariants.{Free, Number}

-- how a store was opened: the program that it is for, its first row, how many words it has, how many waiters each
-- pass has, how many shares were dealt out, and how many seats there may be
pub record Opening : Type 0 where
  pub program : NamedProgram
  pub first : List Ref
  pub words : ℕ
  pub waiters : ℕ
  pub shares : ℕ
  pub seats : ℕ

-- a pass, and the cell that it set and whose place it has not closed yet
pub record Member : Type 0 where
  pub pass : Pass
  pub pending : Option ℕ

-- The view of a seat: its shares, how many passes the store has (with the seat that makes them; else 0), and its
-- passes. The first is the one that steps, the others were put to it. A seat that was joined to another has no shares
-- and no passes.
pub record Seat : Type 0 where
  pub shares : ℕ
  pub made : ℕ
  pub members : List Member

-- what the words hold, and the journal
pub record Held : Type 0 where
  pub row : List Ref
  pub places : List Waiting
  pub mark : ℕ
  pub is_failed : Bool
  pub journal : List JournalEntry

abbrev pub word_at : List Ref → (place : ℕ) → Ref
word_at row place = slice_index_or row place Free

abbrev pub place_at : List Waiting → (cell : ℕ) → Waiting
place_at places cell = slice_index_or places cell empty

abbrev pub number_of : Member → ℕ
number_of m = m.pass.number

abbrev pub pass_of : Member → Pass
pass_of m = m.pass

abbrev pub all_members : List Seat → List Member
all_members seats = flat_map (λ (v : Seat). v.members) seats

-- the places that a pass has to close: of its settings whose value is no half
abbrev pub to_close : List Setting → List ℕ
to_close mine = map (λ (s : Setting). s.place) (filter (λ (s : Setting). not (is_half s.value)) mine)

-- It has closed them in this order, but for the last where that is pending.
abbrev pub HasClosedBut : Member → Type 0
HasClosedBut m = map (λ (t : Took). t.cell) m.pass.took ++ option_to_list m.pending ≡ to_close m.pass.mine

abbrev pub asked_by : Member → ℕ
asked_by m = sum_by (λ (a : Asked). a.weight) m.pass.asked

-- the raises that went above the words
abbrev pub over : (words : ℕ) → List Asked → List Asked
over words asked = filter (λ (a : Asked). nat_lt words (a.mark + a.weight)) asked

-- the largest weight of a frame
abbrev pub most : ℕ
most = 4194304

-- where the frames end
abbrev pub frames_end : (base : ℕ) → List Frame → ℕ
frames_end base [] = base
frames_end base (f ∷ frames) = frames_end (base + f.weight) frames

-- this goal is among those that were hung
abbrev pub WasHung : List JournalEntry → (waiter cell : ℕ) → Type 0
WasHung journal waiter cell = (g : HungGoal) × Contains (hung_of journal) g × (g.waiter ≡ waiter) × (g.cell ≡ cell)

-- The waiters of pass n are the numbers from n * waiters on, as many as that.
abbrev pub IsOwnWaiter : (waiters : ℕ) → JournalEntry → Type 0
IsOwnWaiter waiters e = (g : HungGoal) → e.made ≡ hangs g
    → (e.pass * waiters ≤ g.waiter) × (g.waiter < e.pass * waiters + waiters)

-- Each own setting that is known was made after what was learnt or made before it: its entry lies in what was seen,
-- and each setting that is known before it is in the first row or in an entry before that one.
abbrev pub IsOrdered : List Ref → (number : ℕ) → List Known → (seen : List JournalEntry) → Type 0
IsOrdered first number known seen =
    (before after : List Known) (k : Known) → known ≡ before ++ k ∷ after → k.is_own ≡ true
    → (front : List JournalEntry) × (back : List JournalEntry)
    × (seen ≡ front ++ record { pass = number; made = sets k.setting } ∷ back)
    × All (λ (j : Known). Contains (set_in first ++ settings_of front) j.setting) before

-- What holds of each pass.
pub record Works (o : Opening) (h : Held) (m : Member) : Type 0 where
  pub fits : Fits o.first h.mark h.journal m.pass
  pub has_closed : HasClosedBut m
  -- A place that it took is closed, and one that is pending is not.
  pub took_closed : All (λ (t : Took). place_at h.places t.cell ≡ closed) m.pass.took
  pub pending_open : IfSome m.pending (λ cell. place_at h.places cell ≢ closed)
  -- It has seen that a waiter that it took was hung, on the same cell,
  pub took_hung : All (λ (t : Took). (waiter : ℕ) → t.waiter ≡ Some waiter
      → WasHung m.pass.seen waiter t.cell) m.pass.took
  -- and all that it made.
  pub own_seen : entries_by m.pass m.pass.seen ≡ entries_by m.pass h.journal
  pub ordered : IsOrdered o.first m.pass.number m.pass.known m.pass.seen
  -- It has used its waiters one after another.
  pub waiters : All (λ (g : HungGoal). g.waiter < m.pass.number * o.waiters + length m.pass.hung) m.pass.hung
  pub waiters_left : length m.pass.hung ≤ o.waiters
  -- Where it found a place closed, the cell is set.
  pub found_closed : All (λ (f : Found). f.place ≡ closed → word_at h.row f.cell ≢ Free) m.pass.found
  -- It raised the mark above the words at most once.
  pub over_once : length (over o.words m.pass.asked) ≤ 1

-- The waiter of this goal is in the place of its cell, or some pass took it from there.
abbrev pub IsPlaced : List Waiting → List Member → HungGoal → Type 0
IsPlaced places members g =
    (place_at places g.cell ≡ occupied g.waiter)
    ⊎ ((place_at places g.cell ≡ closed) × (m : Member) × Contains members m
    × Contains m.pass.took (record { cell = g.cell; waiter = Some g.waiter }))

-- some pass has seen all of the journal
abbrev pub IsSeen : List Member → List JournalEntry → Type 0
IsSeen members journal = (m : Member) × Contains members m × (m.pass.seen ≡ journal)

-- What the words say of the journal.
pub record Holds (o : Opening) (h : Held) : Type 0 where
  pub words : length h.row ≡ o.words
  pub places : length h.places ≡ o.words
  pub set_words : (s : Setting) → Contains (set_in h.row) s ↔ Contains (set_in o.first ++ settings_of h.journal) s
  pub set_once : AreDistinct (map (λ (s : Setting). s.place) (set_in o.first ++ settings_of h.journal))
  -- What is set may stand there: so a cell that is set to a cell is set to one with a smaller number.
  pub fits : (s : Setting) → Contains (set_in h.row) s → CanHold o.program o.words s.place s.value
  pub written_first : (s : Setting) → Contains (set_in o.first) s → (pair : ℕ) → s.value ≡ Number pair
      → IsWritten (set_in o.first) pair
  pub written : (before after : List JournalEntry) (e : JournalEntry) → h.journal ≡ before ++ e ∷ after
      → (s : Setting) → e.made ≡ sets s → (pair : ℕ) → s.value ≡ Number pair
      → IsWritten (set_in o.first ++ settings_of before) pair
  -- The frames lie side by side, and end at the mark, unless the mark is above the words: then no raise fits any more.
  pub frames : SideBySide (length o.first) (frames_of h.journal)
  pub ends : (frames_end (length o.first) (frames_of h.journal) ≡ h.mark) ⊎ (o.words < h.mark)
  -- The fail word is up where some pass failed.
  pub failed : (h.is_failed ≡ true) ↔ (fails_of h.journal ≢ [])
  -- The place of a word that is free is not closed.
  pub open_where_free : (place : ℕ) → word_at h.row place ≡ Free → place_at h.places place ≢ closed
  -- A waiter in a place was hung on its cell, and no two goals have one waiter.
  pub occupied_hung : (cell waiter : ℕ) → place_at h.places cell ≡ occupied waiter → WasHung h.journal waiter cell
  pub hung_once : AreDistinct (map (λ (g : HungGoal). g.waiter) (hung_of h.journal))
  pub own_waiters : All (IsOwnWaiter o.waiters) h.journal
  pub goals : All (λ (g : HungGoal). IsGoalInRange o.program o.words g.goal) (hung_of h.journal)

-- What holds of the passes, the words and the journal.
pub record AtWork (o : Opening) (members : List Member) (h : Held) : Type 0 where
  pub holds : Holds o h
  pub each : All (Works o h) members
  pub numbered : AreDistinct (map number_of members)
  pub by_a_pass : All (λ (e : JournalEntry). Contains (map number_of members) e.pass) h.journal
  pub seen : IsSeen members h.journal
  -- The mark is where the first row ends, and then all that was asked for; so it is never far above the words.
  pub mark : h.mark ≡ length o.first + sum_by asked_by members
  pub mark_below : h.mark ≤ o.words + most * sum_by (λ (m : Member). length (over o.words m.pass.asked)) members
  pub placed : All (IsPlaced h.places members) (hung_of h.journal)

-- What holds of the seats: the shares are those that were dealt out, a seat without shares has no passes,
-- and each pass's number is below the number of the seats. The seat that makes passes knows how many there are.
pub record AreSeated (o : Opening) (seats : List Seat) : Type 0 where
  pub shares : sum_by (λ (v : Seat). v.shares) seats ≡ o.shares
  pub spent : All (λ (v : Seat). v.shares ≡ 0 → v.members ≡ []) seats
  pub numbers : All (λ (m : Member). m.pass.number < length seats) (all_members seats)
  pub made : All (λ (v : Seat). (v.made ≡ 0) ⊎ (v.made ≡ length seats)) seats
  -- No more passes are made than there may be seats.
  pub few : length seats ≤ o.seats
  pub passes : length (all_members seats) ≤ length seats
  pub made_by_one : sum_by (λ (v : Seat). v.made) seats ≤ length seats

-- the rule
pub record Rule (o : Opening) (seats : List Seat) (h : Held) : Type 0 where
  pub seated : AreSeated o seats
  pub at_work : AtWork o (all_members seats) h

-- A store can be opened so: its first row is sound, and fits in its words.
pub record CanOpen (o : Opening) : Type 0 where
  pub sound : IsSound o.program o.first
  pub long : length o.first ≤ o.words
  pub shared : 0 < o.shares
  pub seated : 0 < o.seats

abbrev pub first_place : Ref → Waiting
first_place r = cond (is_free r) empty closed

-- what the words hold at the opening: the places of cells that are set are closed
abbrev pub opened : Opening → Held
opened o =
    let row : List Ref = o.first ++ replicate (o.words - length o.first) Free in
    record { row = row; places = map first_place row; mark = length o.first; is_failed = false; journal = [] }

-- no pass is inside a call
abbrev pub IsAtRest : List Member → Type 0
IsAtRest members = All (λ (m : Member). m.pending ≡ None) members

-- the longer of two, where one begins with the other
abbrev pub longer : List JournalEntry → List JournalEntry → List JournalEntry
longer xs ys = cond (nat_lt (length xs) (length ys)) ys xs

-- the journal, as some of these passes has seen it
abbrev pub journal_of : List Member → List JournalEntry
journal_of [] = []
journal_of (m ∷ members) = longer m.pass.seen (journal_of members)

-- What holds then of the passes, the words and the journal.
abbrev pub AtClose : Opening → List Member → Held → Type 0
AtClose o members h = Row o.first (map pass_of members) h.journal h.row
