-- Entries of a listing by their codes.
use Rattle.std.specs.Prelude.{◌≢◌, List, AllPairs}
use Rattle.std.specs.List.Sorted.{IsPermutation}
use Rattle.and_model.specs.Codes.{Precedes}
use Rattle.and_model.specs.Listing.{Entry}

-- No two entries have one code.
abbrev pub HasDistinctCodes : List Entry → Type 0
HasDistinctCodes entries = AllPairs (λ x y. x.code ≢ y.code) entries

-- The same entries, each before those whose codes are larger in the lexicographic order.
pub record InOrder (old new : List Entry) : Type 0 where
  pub same : IsPermutation old new
  pub rising : AllPairs (λ x y. Precedes x.code y.code) new
