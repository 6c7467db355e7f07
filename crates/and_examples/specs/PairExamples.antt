-- A cell that is set to a number, tried on direct calls.
use Rattle.std.specs.Prelude.{List, [], ◌∷◌}
use Rattle.and_model.specs.declared.reference.Ref.{Ref}
use Rattle.and_model.specs.declared.reference.Ref.TheVariants.{Free, Number, Half}
use Rattle.and_model.specs.Store.{JournalEntry, sets, Pass}
use Rattle.and_examples.specs.StoreExamples.{setting, entry, own, nobody_waits}

-- Four free words. The one pass writes both halves of the pair at 2, and then sets the cell 0 to it.
abbrev pub first : List Ref
first = Free ∷ Free ∷ Free ∷ Free ∷ []

abbrev pub low : JournalEntry
low = entry 0 (sets (setting 2 (Half 0)))

abbrev pub high : JournalEntry
high = entry 0 (sets (setting 3 (Half 7)))

abbrev pub named : JournalEntry
named = entry 0 (sets (setting 0 (Number 2)))

abbrev pub journal : List JournalEntry
journal = low ∷ high ∷ named ∷ []

-- The cell's waiting place is closed, and a half has none.
abbrev pub writer : Pass
writer = record {
  number = 0;
  seen = journal;
  known = own 2 (Half 0) ∷ own 3 (Half 7) ∷ own 0 (Number 2) ∷ [];
  mine = setting 2 (Half 0) ∷ setting 3 (Half 7) ∷ setting 0 (Number 2) ∷ [];
  frames = [];
  asked = [];
  fails = [];
  missed = [];
  hung = [];
  took = nobody_waits 0 ∷ [];
  found = [];
}

abbrev pub row : List Ref
row = Number 2 ∷ Free ∷ Half 0 ∷ Half 7 ∷ []

-- The cell is set before the second half is.
abbrev pub too_early : List JournalEntry
too_early = low ∷ named ∷ high ∷ []
