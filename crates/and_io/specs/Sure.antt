-- What the source and the sink that never fail keep. All of it is this project's own.
use Rattle.std.specs.Prelude.{ℕ, List, length, min}

-- The bytes that a source has given and those that it has left, and how many it gives at a time
pub record Supply : Type 0 where
  pub taken : List ℕ
  pub bytes : List ℕ
  pub piece : ℕ

-- How many bytes a source gives into so much space
abbrev pub given_into : ℕ → Supply → ℕ
given_into space s = min (min (length s.bytes) s.piece) space

-- The bytes that a sink was given, and for how many it has room
pub record Shelf : Type 0 where
  pub given : List ℕ
  pub room : ℕ
