-- Clauses that are added in order, each under a key or under every key.
use Rattle.std.specs.Prelude.{ℕ, List, [], ◌∷◌, length, if◌then◌else◌}
use Rattle.and_model.specs.declared.numbers.ClauseNo.{ClauseNo}
use Rattle.and_first_argument.specs.Keys.{same_key}
use Rattle.and_first_argument.specs.Tables.{Table, keys_with, AddsUnder, AddsEverywhere}
use Rattle.and_first_argument.specs.declared.key.Key.{Key}
use Rattle.and_first_argument.specs.declared.first_arguments.Addition.{Addition}
use Rattle.and_first_argument.specs.declared.first_arguments.Addition.TheVariants.{Under, Any}

-- the clauses that were added under the key or under every key, in order of adding
abbrev pub picked : Key → List Addition → List ClauseNo
picked key [] = []
picked key (Under held clause ∷ more) = if same_key key held then clause ∷ picked key more else picked key more
picked key (Any clause ∷ more) = clause ∷ picked key more

-- some keys, and then those that clauses were added under, each once
abbrev pub keys_after : List Key → List Addition → List Key
keys_after keys [] = keys
keys_after keys (Under key clause ∷ more) = keys_after (keys_with keys key) more
keys_after keys (Any clause ∷ more) = keys_after keys more

-- how many different keys clauses were added under
abbrev pub key_count : List Addition → ℕ
key_count additions = length (keys_after [] additions)

-- The table gains what is added.
abbrev pub Adds : Addition → Table → Table → Type 0
Adds (Under key clause) old new = AddsUnder key clause old new
Adds (Any clause) old new = AddsEverywhere clause old new
