-- Clauses by keys.
use Rattle.std.specs.Prelude.{ℕ, ◌≡◌, ◌≢◌, List, [], ◌∷◌, ◌++◌, length, position, Contains, if◌then◌else◌}
use Rattle.std.specs.List.{list_any}
use Rattle.and_model.specs.declared.numbers.ClauseNo.{ClauseNo}
use Rattle.and_first_argument.specs.Keys.{same_key}
use Rattle.and_first_argument.specs.Lists.{Lists, list_at}
use Rattle.and_first_argument.specs.declared.key.Key.{Key}

-- the keys that have a row, and the lists of the rows and of all other keys
pub record Table : Type 0 where
  pub keys : List Key
  pub lists : Lists

-- a table that holds nothing
abbrev pub empty : Table
empty = record { keys = []; lists = record { rows = []; others = [] } }

-- Each key has a row.
abbrev pub HasRows : Table → Type 0
HasRows table = length table.lists.rows ≡ length table.keys

-- the clauses under a key: those of its row, or, where it has none, those of all other keys
abbrev pub under : Table → Key → List ClauseNo
under table key = list_at table.lists (position (same_key key) table.keys)

-- the keys with one more, unless it is there
abbrev pub keys_with : List Key → Key → List Key
keys_with keys key = if list_any (same_key key) keys then keys else keys ++ key ∷ []

-- The clause goes to the end of what is under the key; under each other key is what was.
pub record AddsUnder (key : Key) (clause : ClauseNo) (old new : Table) : Type 0 where
  pub here : under new key ≡ under old key ++ clause ∷ []
  pub elsewhere : (other : Key) → other ≢ key → under new other ≡ under old other
  pub keys : new.keys ≡ keys_with old.keys key

-- The clause goes to the end of what is under each key.
pub record AddsEverywhere (clause : ClauseNo) (old new : Table) : Type 0 where
  pub each : (key : Key) → under new key ≡ under old key ++ clause ∷ []
  pub keys : new.keys ≡ old.keys

-- The table has as many keys as it can have, and this is none of them.
abbrev pub IsFullFor : Key → ℕ → Table → Type 0
IsFullFor key width table = (length table.keys ≡ width) × (Contains table.keys key → ⊥)
