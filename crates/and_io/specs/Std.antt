-- What the source and the sink over std's readers and writers keep. All of it is this project's own.
use Rattle.std.specs.Prelude.{ℕ, List, Bool}

-- The reader, the bytes that it has given, whether the last read that did not fail found the end, and how many faults
-- there were
pub record Inlet (I : Type 0) : Type 0 where
  pub input : I
  pub taken : List ℕ
  pub ended : Bool
  pub faults : ℕ

-- The writer, the bytes that it has been given, and how many faults there were
pub record Outlet (O : Type 0) : Type 0 where
  pub output : O
  pub given : List ℕ
  pub faults : ℕ
