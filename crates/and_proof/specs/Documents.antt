-- Where the proof part of a document begins (this project's own).
use Rattle.std.specs.Prelude.{ℕ, ◌+◌, ◌-◌, ◌≡◌, ◌⊎◌, ◌++◌, drop, get_or, length, codes}
use Rattle.and_model.specs.Lines.{Bytes}

-- the line with which a proof part begins, without its newline
abbrev pub mark : Bytes
mark = codes "%% proof"

-- A line that is exactly the mark begins at the place: before it stands nothing or a newline, and behind it too.
pub record IsMark (bytes : Bytes) (place : ℕ) : Type 0 where
  pub begins : (place ≡ 0) ⊎ (get_or bytes (place - 1) 0 ≡ 10)
  pub rest : Bytes
  pub reads : drop place bytes ≡ mark ++ rest
  pub ends : get_or bytes (place + length mark) 10 ≡ 10
