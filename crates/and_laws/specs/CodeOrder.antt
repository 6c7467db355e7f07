-- The order of entries by their codes, and of forks by their keys.
use Rattle.and_model.specs.Codes.{Precedes}
use Rattle.and_model.specs.Listing.{Entry}
use Rattle.and_model.specs.Reached.{Fork}

-- The code of the first entry comes before that of the second in the lexicographic order.
abbrev pub Before : Entry → Entry → Type 0
Before x y = Precedes x.code y.code

-- The key of the first fork comes before that of the second in the lexicographic order.
abbrev pub Rises : Fork → Fork → Type 0
Rises x y = Precedes x.key y.key
