-- The tables of first arguments, by size.
use Rattle.std.specs.Prelude.{ℕ, ◌<◌, ◌≤◌, List}
use Rattle.and_model.specs.declared.numbers.ClauseNo.{ClauseNo}
use Rattle.and_first_argument.specs.Tables.{under}
use Rattle.and_first_argument.specs.declared.key.Key.{Key}
use Rattle.and_first_argument.specs.declared.first_arguments.FirstArguments.{FirstArguments}
use Rattle.and_first_argument.specs.declared.first_arguments.FirstArguments.TheVariants.{Four, Sixteen, SixtyFour}
use Rattle.and_first_argument.specs.declared.first_arguments.FirstArguments.TheVariants.{Indexed}

-- the clauses under a key
abbrev pub clauses_under : FirstArguments → Key → List ClauseNo
clauses_under (Four switch) key = under switch key
clauses_under (Sixteen switch) key = under switch key
clauses_under (SixtyFour switch) key = under switch key
clauses_under (Indexed index) key = under index key

-- It is the smallest that holds so many keys.
abbrev pub IsSmallestFor : ℕ → FirstArguments → Type 0
IsSmallestFor count (Four switch) = count ≤ 4
IsSmallestFor count (Sixteen switch) = (4 < count) × (count ≤ 16)
IsSmallestFor count (SixtyFour switch) = (16 < count) × (count ≤ 64)
IsSmallestFor count (Indexed index) = 64 < count
