-- What a table of bodies holds, and how a body grows.
use Rattle.std.specs.Prelude.{ℕ, ◌≡◌, List, [], ◌∷◌, ◌++◌, map, get_or}
use Rattle.and_model.specs.Programs.{Item}
use Rattle.and_program.specs.Items.{node_item}
use Rattle.and_program.specs.Skeletons.{Shape, IsThere, item_of}
use Rattle.and_program.specs.declared.item.ItemNode.{ItemNode}
use Rattle.and_lint.specs.declared.bodies.Body.{Body}

-- the items that nodes stand for
abbrev pub items_shown : List Shape → List ItemNode → List Item
items_shown ss xs = map (item_of ss) (map node_item xs)

-- the nodes of the items are there
abbrev pub AreItems : List Shape → List ItemNode → Type 0
AreItems ss [] = Unit {0}
AreItems ss (x ∷ xs) = ((k : ℕ) × IsThere ss k (node_item x)) × AreItems ss xs

abbrev pub nodes_in : Body → List ItemNode
nodes_in b = b.items.items

abbrev pub numbers_of : Body → List ℕ
numbers_of b = b.variables.items

-- the items of a clause in a table, by its number
abbrev pub items_at : List Body → ℕ → List ItemNode
items_at bs c = get_or (map nodes_in bs) c []

-- its variables
abbrev pub variables_at : List Body → ℕ → List ℕ
variables_at bs c = get_or (map numbers_of bs) c []

-- The table holds these items and variables of each clause.
pub record Tells (ss : List Shape) (bs : List Body) (items : ℕ → List Item) (variables : ℕ → List ℕ) : Type 0 where
  pub items_are : (c : ℕ) → items_shown ss (items_at bs c) ≡ items c
  pub variables_are : (c : ℕ) → variables_at bs c ≡ variables c
  pub there : (c : ℕ) → AreItems ss (items_at bs c)

-- The body has these items and variables.
pub record IsBody (ss : List Shape) (b : Body) (items : List Item) (variables : List ℕ) : Type 0 where
  pub items_are : items_shown ss b.items.items ≡ items
  pub variables_are : b.variables.items ≡ variables
  pub there : AreItems ss b.items.items

-- These were put behind a body's items and variables.
pub record Gains (ss : List Shape) (old new : Body) (items : List Item) (variables : List ℕ) : Type 0 where
  pub items_are : items_shown ss new.items.items ≡ items_shown ss old.items.items ++ items
  pub variables_are : new.variables.items ≡ old.variables.items ++ variables
  pub there : AreItems ss old.items.items → AreItems ss new.items.items

-- With those still to be put behind, the one body is to become what the other is to become with these.
pub record Nears (ss : List Shape) (old : Body) (items : List Item) (variables : List ℕ) (new : Body)
    (more : List Item) (others : List ℕ) : Type 0 where
  pub items_are : items_shown ss new.items.items ++ more ≡ items_shown ss old.items.items ++ items
  pub variables_are : new.variables.items ++ others ≡ old.variables.items ++ variables
  pub there : AreItems ss old.items.items → AreItems ss new.items.items
