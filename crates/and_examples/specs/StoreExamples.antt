-- The row of a store, tried on direct calls.
use Rattle.std.specs.Prelude.{ℕ, true, false, List, [], ◌∷◌, None}
use Rattle.and_model.specs.declared.reference.Ref.{Ref}
use Rattle.and_model.specs.declared.reference.Ref.TheVariants.{Free, Cell, Half}
use Rattle.and_model.specs.Store.{Setting, JournalEntry, Made, sets, gives, fails, Known, Took, Pass, fail_word}

abbrev pub setting : ℕ → Ref → Setting
setting place value = record { place = place; value = value }

abbrev pub entry : ℕ → Made → JournalEntry
entry pass made = record { pass = pass; made = made }

abbrev pub own : ℕ → Ref → Known
own place value = record { setting = setting place value; is_own = true }

abbrev pub learnt : ℕ → Ref → Known
learnt place value = record { setting = setting place value; is_own = false }

abbrev pub nobody_waits : ℕ → Took
nobody_waits cell = record { cell = cell; waiter = None }

-- Three free cells. The first pass sets 2 to cell 1 and 1 to cell 0, is given a frame of 4, writes the number 5 into
-- the pair 4, and fails.
abbrev pub first : List Ref
first = Free ∷ Free ∷ Free ∷ []

abbrev pub journal : List JournalEntry
journal =
    entry 0 (sets (setting 2 (Cell 1)))
    ∷ entry 0 (sets (setting 1 (Cell 0)))
    ∷ entry 0 (gives (record { base = 3; weight = 4 }))
    ∷ entry 0 (sets (setting 4 (Half 0)))
    ∷ entry 0 (sets (setting 5 (Half 5)))
    ∷ entry 0 fails
    ∷ []

abbrev pub winner : Pass
winner = record {
  number = 0;
  seen = journal;
  known = own 2 (Cell 1) ∷ own 1 (Cell 0) ∷ own 4 (Half 0) ∷ own 5 (Half 5) ∷ [];
  mine = setting 2 (Cell 1) ∷ setting 1 (Cell 0) ∷ setting 4 (Half 0) ∷ setting 5 (Half 5) ∷ [];
  frames = record { base = 3; weight = 4 } ∷ [];
  asked = record { mark = 3; weight = 4 } ∷ record { mark = 9; weight = 1 } ∷ [];
  fails = tt ∷ [];
  missed = [];
  hung = [];
  took = nobody_waits 2 ∷ nobody_waits 1 ∷ [];
  found = [];
}

-- The second pass comes too late for both cells and for its frame.
abbrev pub learner : Pass
learner = record {
  number = 1;
  seen = journal;
  known = learnt 2 (Cell 1) ∷ learnt 1 (Cell 0) ∷ [];
  mine = [];
  frames = [];
  asked = record { mark = 7; weight = 2 } ∷ [];
  fails = [];
  missed = fail_word ∷ [];
  hung = [];
  took = [];
  found = [];
}

abbrev pub row : List Ref
row = Free ∷ Cell 0 ∷ Cell 1 ∷ Free ∷ Half 0 ∷ Half 5 ∷ Free ∷ []

-- and in that of the journal
abbrev pub made : List Setting
made = setting 2 (Cell 1) ∷ setting 1 (Cell 0) ∷ setting 4 (Half 0) ∷ setting 5 (Half 5) ∷ []
