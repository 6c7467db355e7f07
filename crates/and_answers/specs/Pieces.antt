-- Codes that are kept as what each has behind the one before it.
use Rattle.std.specs.Prelude.{ℕ, ◌≡◌, ◌≢◌, ◌≤◌, List, [], ◌∷◌, ◌++◌, length, take, drop, Option, Some, None}
use Rattle.and_answers.specs.Tails.{MayFollow}
use Rattle.and_answers.specs.declared.piece.Piece.{Piece}

-- the code of a piece behind this code
abbrev pub code_behind : List ℕ → Piece → List ℕ
code_behind last piece = take piece.common last ++ piece.rest

-- the codes of the pieces, the first behind this code and each other behind the one before it
abbrev pub codes_from : List ℕ → List Piece → List (List ℕ)
codes_from last [] = []
codes_from last (piece ∷ pieces) = code_behind last piece ∷ codes_from (code_behind last piece) pieces

-- the last of them
abbrev pub last_from : List ℕ → List Piece → List ℕ
last_from last [] = last
last_from last (piece ∷ pieces) = last_from (code_behind last piece) pieces

-- the last of these codes; and this one, where there are none
abbrev pub last_or : List ℕ → List (List ℕ) → List ℕ
last_or code [] = code
last_or code (c ∷ codes) = last_or c codes

-- The last of the pieces' codes is there, if any is.
abbrev pub IsLastOf : List Piece → Option (List ℕ) → Type 0
IsLastOf pieces None = Unit {0}
IsLastOf pieces (Some code) = code ≡ last_from [] pieces

-- What a piece has from the code before it is there, and where it has some its code comes no sooner than that.
pub record IsInPlace (last : List ℕ) (piece : Piece) : Type 0 where
  pub within : piece.common ≤ length last
  pub follows : piece.common ≢ 0 → MayFollow (drop piece.common last) piece.rest

-- So it is with each, behind the one before it.
abbrev pub AreInPlace : List ℕ → List Piece → Type 0
AreInPlace last [] = Unit {0}
AreInPlace last (piece ∷ pieces) = IsInPlace last piece × AreInPlace (code_behind last piece) pieces

-- A code has so many clauses from another one, and where it has some it comes no sooner.
pub record HasFrom (last code : List ℕ) (count : ℕ) : Type 0 where
  pub within : count ≤ length last
  pub inside : count ≤ length code
  pub same : take count last ≡ take count code
  pub follows : count ≢ 0 → MayFollow (drop count last) (drop count code)
