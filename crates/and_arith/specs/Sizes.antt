-- How many parts expressions have, and what a call takes of the fuel. (The parts of a term are its variables, numbers
-- and names.)
use Rattle.std.specs.Prelude.{ℕ, ◌≡◌, ◌<◌, ◌≤◌, ◌+◌, ◌-◌, ◌⊎◌, List, [], ◌∷◌, map, All, Contains}
use Rattle.and_model.specs.Store.{Setting, AreDistinct}
use Rattle.and_model.specs.declared.reference.Ref.{Ref}
use Rattle.and_model.specs.declared.reference.Ref.TheVariants as reference
use Rattle.and_laws.specs.Sizes.{size}
use Rattle.and_program.specs.Skeletons.{node_term}
use Rattle.and_cells.specs.Ranges.{NamedProgram}
use Rattle.and_cells.specs.Seen.{Seen, Knows}
use Rattle.and_arith.specs.declared.values.Valued.{Valued}
use Rattle.and_arith.specs.declared.values.Valued.TheVariants.{Number, NoValue, Waits, PutOff, Memory}
use Rattle.and_value_laws.specs.Values.{Reaches}

-- how many parts the term of a reference has where no chain is followed: a cell is one
abbrev pub size_of : NamedProgram → Ref → ℕ
size_of P reference.Free = 1
size_of P (reference.Cell cell) = 1
size_of P (reference.Node node base) = size (node_term P.skeleton.nodes node.0)
size_of P (reference.Number pair) = 1
size_of P (reference.Half bits) = 1

-- how many parts come to the cells that stand for them, where what these cells are set to is written out
abbrev pub parts_behind : NamedProgram → List Setting → ℕ
parts_behind P [] = 0
parts_behind P (k ∷ settings) = (size_of P k.value - 1) + parts_behind P settings

-- How many parts an expression has where what these cells are set to is written out, once each.
-- (So two cells that are set to one structure have its parts each, and what one cell has counts once, however often
-- the cell occurs.)
abbrev pub parts_with : NamedProgram → Ref → List Setting → ℕ
parts_with P expression settings = size_of P expression + parts_behind P settings

-- Cells that the expression leads to, each once, with what they are known to be set to.
pub record AreOpened (P : NamedProgram) (s : Seen) (expression : Ref) (settings : List Setting) : Type 0 where
  pub distinct : AreDistinct (map (λ (k : Setting). k.place) settings)
  pub reached : All (λ (k : Setting). Reaches P s expression (reference.Cell k.place)
      × Knows s k.place k.value) settings

-- All of them are among these, but for those that are set to a single part.
abbrev pub AreAllOpened : NamedProgram → Seen → Ref → List Setting → Type 0
AreAllOpened P s expression settings =
    (cell : ℕ) (r : Ref) → Reaches P s expression (reference.Cell cell) → Knows s cell r
    → Contains settings (record { place = cell; value = r }) ⊎ (size_of P r ≡ 1)

-- it says whether there is a value
abbrev pub IsSettledAnswer : Valued → Type 0
IsSettledAnswer (Number z) = Unit {0}
IsSettledAnswer NoValue = Unit {0}
IsSettledAnswer (Waits cell) = ⊥
IsSettledAnswer PutOff = ⊥
IsSettledAnswer Memory = ⊥

-- What an answer took of the fuel.
pub record Spends (P : NamedProgram) (now : Seen) (expression : Ref) (fuel rest : ℕ) (answer : Valued) : Type 0 where
  -- With a value, or none, 1 for each part of the whole expression.
  pub whole : IsSettledAnswer answer → (settings : List Setting) × AreOpened P now expression settings
      × AreAllOpened P now expression settings
      × (fuel ≡ rest + parts_with P expression settings)
  -- Up to a free cell some, and no more than there are parts.
  pub waits : (cell : ℕ) → answer ≡ Waits cell
      → (rest < fuel) × ((settings : List Setting) × AreOpened P now expression settings
      × (fuel ≤ rest + parts_with P expression settings))
  -- Put off, all of it, and there are more parts than that.
  pub put_off : answer ≡ PutOff → (rest ≡ 0)
      × ((settings : List Setting) × AreOpened P now expression settings × (fuel < parts_with P expression settings))
