-- Lines that are kept as what each has behind the one before it.
use Rattle.std.specs.Prelude.{ℕ, ◌≡◌, ◌+◌, ◌<◌, List, [], ◌∷◌, ◌++◌, length, take, get_or, All, Option, Some, None}
use Rattle.and_model.specs.Lines.{Bytes}
use Rattle.and_answers.specs.declared.found.Entry.{Entry}
use Rattle.and_answers.specs.declared.piece.LinePiece.{LinePiece}

-- the line of a piece behind this line
abbrev pub line_behind : Bytes → LinePiece → Bytes
line_behind last piece = take piece.common last ++ piece.rest

-- the lines of the pieces, the first behind this line and each other behind the one before it
abbrev pub lines_from : Bytes → List LinePiece → List Bytes
lines_from last [] = []
lines_from last (piece ∷ pieces) = line_behind last piece ∷ lines_from (line_behind last piece) pieces

-- the last of them
abbrev pub last_line_from : Bytes → List LinePiece → Bytes
last_line_from last [] = last
last_line_from last (piece ∷ pieces) = last_line_from (line_behind last piece) pieces

-- The last of the pieces' lines is there, if any is.
abbrev pub IsLastLine : List LinePiece → Option Bytes → Type 0
IsLastLine pieces None = Unit {0}
IsLastLine pieces (Some line) = line ≡ last_line_from [] pieces

-- The first piece, if there is one, has nothing from a line before it.
abbrev pub BeginsWhole : List LinePiece → Type 0
BeginsWhole [] = Unit {0}
BeginsWhole (piece ∷ pieces) = piece.common ≡ 0

-- The line of an entry is the one at its place.
pub record IsKept (lines : List Bytes) (entry : Entry) : Type 0 where
  pub within : entry.place < length lines
  pub line : get_or lines entry.place [] ≡ entry.line.value

-- So it is with each.
abbrev pub AreKept : List Bytes → List Entry → Type 0
AreKept lines entries = All (λ (entry : Entry). IsKept lines entry) entries

-- an entry whose place is so many lines further on
abbrev pub moved_on : ℕ → Entry → Entry
moved_on by entry = record entry { place = entry.place + by }
