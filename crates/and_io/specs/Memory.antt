-- What the source and the sink in memory keep. All of it is this project's own.
use Rattle.std.specs.Prelude.{ℕ, ◌+◌, ◌-◌, ◌^◌, List, length, min}

-- The bytes that a source has given and those that it has left, how many it gives at a time, the numbers of the calls
-- in which it fails, and how many calls and faults there were
pub record Feed : Type 0 where
  pub taken : List ℕ
  pub bytes : List ℕ
  pub piece : ℕ
  pub fails : List ℕ
  pub calls : ℕ
  pub faults : ℕ

-- How many bytes a source gives into so much space
abbrev pub given_to : ℕ → Feed → ℕ
given_to space f = min (min (length f.bytes) f.piece) space

-- The bytes that a sink holds, for how many it has room, and how many calls and faults there were
pub record Tub : Type 0 where
  pub bytes : List ℕ
  pub room : ℕ
  pub calls : ℕ
  pub faults : ℕ

-- For how many more bytes a sink has room
abbrev pub space_in : Tub → ℕ
space_in t = t.room - length t.bytes

-- The largest number of a count
abbrev pub most : ℕ
most = 2 ^ 64 - 1

-- The next number of a count, which stays at the largest
abbrev pub one_more : ℕ → ℕ
one_more n = min (n + 1) most
