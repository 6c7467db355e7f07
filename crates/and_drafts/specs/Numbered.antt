-- What parts are once their names and variables are numbered.
use Rattle.std.specs.Prelude.{ℕ, ◌+◌, ◌≡◌, cond, List, [], ◌∷◌, ◌++◌, map, take, length}
use Rattle.std.specs.Borrow.{Bor}
use Rattle.and_model.specs.Lines.{Bytes}
use Rattle.and_syntax.specs.Written.{is_new, place, including, variable_number}
use Rattle.and_program.specs.Skeletons
use Rattle.and_program.specs.Skeletons.{Shape}
use Rattle.and_drafts.specs.Parts.{PartShape, variable, integer, compound}

-- the names of the rows of a table
abbrev pub bytes_of : List (ℕ × Bor Bytes) → List Bytes
bytes_of rows = map (λ row. row.1.now) rows

-- the names with several that occur in turn
abbrev pub including_all : List Bytes → List Bytes → List Bytes
including_all names [] = names
including_all names (c ∷ cs) = including_all (including names c) cs

-- the names with that of a part
abbrev pub named_by : List Bytes → PartShape → List Bytes
named_by names (variable x) = names
named_by names (integer z) = names
named_by names (compound c ns) = including names c

-- the variables that were met, with that of a part
abbrev pub met_with : List Bytes → PartShape → List Bytes
met_with met (variable x) = cond (is_new x met) (met ++ x ∷ []) met
met_with met (integer z) = met
met_with met (compound c ns) = met

-- and with those of a list of parts
abbrev pub met_by : List Bytes → List PartShape → List Bytes
met_by met [] = met
met_by met (p ∷ ps) = met_by (met_with met p) ps

-- a part under a table of names, where these variables were met
abbrev pub shape_in : List Bytes → List Bytes → PartShape → Shape
shape_in names met (variable x) = Skeletons.variable (variable_number x met)
shape_in names met (integer z) = Skeletons.number z
shape_in names met (compound c ns) = Skeletons.compound (place c names) ns

-- a list of parts under a table of names, where these variables were met before them
abbrev pub shapes_in : List Bytes → List Bytes → List PartShape → List Shape
shapes_in names met [] = []
shapes_in names met (p ∷ ps) = shape_in names met p ∷ shapes_in names (met_with met p) ps

-- a node with n others before it
abbrev pub behind : ℕ → Shape → Shape
behind n (Skeletons.variable k) = Skeletons.variable k
behind n (Skeletons.number z) = Skeletons.number z
behind n (Skeletons.compound c ns) = Skeletons.compound c (map (λ m. n + m) ns)

-- the names begin with the old ones
abbrev pub Extends : List Bytes → List Bytes → Type 0
Extends old new = take (length old) new ≡ old

-- the nodes from `base` on are those of the parts, for some variables that were met before
pub record IsRead (ss : List Shape) (base : ℕ) (names : List Bytes) (ps : List PartShape) : Type 0 where
  pub before : List Shape
  pub nodes : ss ≡ before ++ map (behind base) (shapes_in names [] ps)
  pub few : length before ≡ base
