-- Runs of entries.
use Rattle.std.specs.Prelude.{◌≡◌, List, [], ◌++◌, flat_map}
use Rattle.std.specs.List.Sorted.{IsPermutation}
use Rattle.and_answers.specs.Runs.{Rises, entries_of}
use Rattle.and_answers.specs.declared.found.Entry.{Entry}
use Rattle.and_answers.specs.declared.tail.Tail.{Tail}

-- the entries of runs
abbrev pub all_entries : List (List Tail) → List Entry
all_entries runs = flat_map (λ (tails : List Tail). entries_of tails) runs

-- All entries of the runs were put behind others, in the order of their codes.
pub record IsPutBack (old : List Entry) (runs : List (List Tail)) (new : List Entry) : Type 0 where
  pub tails : List Tail
  pub rises : Rises [] tails
  pub entries : new ≡ old ++ entries_of tails
  pub same : IsPermutation (all_entries runs) (entries_of tails)

-- The same entries, in the order of their codes.
pub record IsRisen (old new : List Entry) : Type 0 where
  pub tails : List Tail
  pub rises : Rises [] tails
  pub entries : new ≡ entries_of tails
  pub same : IsPermutation old (entries_of tails)
