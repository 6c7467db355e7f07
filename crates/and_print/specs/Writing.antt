-- What is written with names for variables, whichever variables of the line come later. (These words are this
-- project's own.)
use Rattle.std.specs.Prelude.{ℕ, ◌≡◌, List, [], ◌∷◌, ◌++◌}
use Rattle.std.specs.Fmt.{decimal}
use Rattle.and_model.specs.Terms.{Path}
use Rattle.and_model.specs.Lines.{Bytes, first_seen, place_of}

abbrev pub Variable : Type 0
Variable = Path × ℕ

-- a text that depends on the variables of the line
abbrev pub Named : Type 0
Named = List Variable → Bytes

-- the variable of a cell as it is written
abbrev pub shown_cell : ℕ → Named
shown_cell cell vs = 95 ∷ decimal (place_of ([], cell) vs)

-- These variables have names now, and the text was put at the end of the old one, as it is under the names of the
-- whole line.
pub record Writes (variables : List Variable) (text : Named) (seen now : List Variable) (old new : Bytes) : Type 0 where
  pub seen_now : now ≡ first_seen seen variables
  pub written : (later : List Variable) → new ≡ old ++ text (first_seen now later)
