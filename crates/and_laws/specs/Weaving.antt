-- Arithmetic goals of a tree, with those that a reduction brings among them.
use Rattle.std.specs.Prelude.{◌≡◌, List, [], ◌∷◌, ◌++◌}
use Rattle.and_model.specs.Terms.{Path}
use Rattle.and_model.specs.Solutions.{Equation}
use Rattle.and_model.specs.Programs.{Program, Item, call, equal, arithmetic, fail, Arithmetic, arithmetic_in}
use Rattle.and_model.specs.Closure.{Ran}
use Rattle.and_model.specs.Trees.{Agenda, Tree, equations, arithmetics}

-- Woven old new whole: the whole has the old goals and the new ones, each in their order.
pub data Woven : List Arithmetic → List Arithmetic → List Arithmetic → Type 0 where
  none : Woven [] [] []
  old : (a : Arithmetic) (olds news whole : List Arithmetic) → Woven olds news whole → Woven (a ∷ olds) news (a ∷ whole)
  new : (a : Arithmetic) (olds news whole : List Arithmetic) → Woven olds news whole → Woven olds (a ∷ news) (a ∷ whole)

-- the arithmetic goals of a body in the frame q
abbrev pub body_arithmetic : Path → List Item → List Arithmetic
body_arithmetic q [] = []
body_arithmetic q (call g ∷ items) = body_arithmetic q items
body_arithmetic q (equal a b ∷ items) = body_arithmetic q items
body_arithmetic q (arithmetic a ∷ items) = arithmetic_in q a ∷ body_arithmetic q items
body_arithmetic q (fail ∷ items) = body_arithmetic q items

-- The second tree is larger, with these arithmetic goals more. What was run of the first, adding to its equations, is
-- run of the second and adds the same; the new goals wait among those that waited.
abbrev pub RanAlike : {P : Program} {ag : Agenda} → Tree P ag → Tree P ag → List Arithmetic → List Equation
    → List Arithmetic → Type 0
RanAlike t next news solved waits =
    (gained : List Equation) × (wait : List Arithmetic) × (solved ≡ gained ++ equations t) × Woven waits news wait
    × Ran (equations next) (arithmetics next) (gained ++ equations next) wait
