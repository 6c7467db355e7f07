-- The lines of a proof as they are read again.
use Rattle.std.specs.Prelude.{ℕ, ◌^◌, ◌<◌, ◌≡◌, List, [], ◌∷◌, ◌++◌, codes, All, Contains}
use Rattle.std.specs.Fmt.{decimal}
use Rattle.and_model.specs.Lines.{Bytes}

-- The line of a call by its parts: a depth, a clause, and the text of the call.
pub record Entry : Type 0 where
  pub depth : ℕ
  pub clause : ℕ
  pub call : Bytes

-- the clause's number is of 16 bits, and the text is of one line
pub record IsEntry (e : Entry) : Type 0 where
  pub clause : e.clause < 2 ^ 16
  pub call : Contains e.call 10 → ⊥

-- its bytes without the newline,
abbrev pub entry_text : Entry → Bytes
entry_text e = codes "%% " ++ decimal e.depth ++ 32 ∷ decimal e.clause ++ 32 ∷ e.call

-- all of its bytes,
abbrev pub entry_line : Entry → Bytes
entry_line e = codes "%% " ++ decimal e.depth ++ 32 ∷ decimal e.clause ++ 32 ∷ e.call ++ 10 ∷ []

-- and those of entries one after another
abbrev pub entry_lines : List Entry → Bytes
entry_lines [] = []
entry_lines (e ∷ es) = entry_line e ++ entry_lines es

-- The text has just these entries between its first line and the outcome's line.
abbrev pub HasEntries : Bytes → List Entry → Type 0
HasEntries text es =
    All IsEntry es × ((first last : Bytes) × (Contains first 10 → ⊥)
    × (text ≡ first ++ 10 ∷ (entry_lines es ++ (codes "%% line " ++ last))))
