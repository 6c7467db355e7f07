-- The head of a clause, and the items of its body.
use Rattle.std.specs.Prelude.{ℕ, ◌≡◌, ◌<◌, List, [], map, length}
use Rattle.and_model.specs.Terms.{Term}
use Rattle.and_model.specs.Programs.{clause_at}
use Rattle.and_program.specs.Items.{node_item}
use Rattle.and_program.specs.Loaded.{nodes_at}
use Rattle.and_program.specs.Skeletons.{Shape, item_of}
use Rattle.and_program.specs.declared.item.ItemNode.{ItemNode}
use Rattle.and_cells.specs.Ranges.{NamedProgram}
use Rattle.and_branch_laws.specs.Reducing.{body_equations}

-- The node, which is there, is the head of the clause.
abbrev pub IsHeadOf : NamedProgram → (clause node : ℕ) → Type 0
IsHeadOf P clause node = (node ≡ (nodes_at P.skeleton clause).head) × (node < length P.skeleton.nodes)

-- These are the items of the clause's body.
pub record AreItemsOf (P : NamedProgram) (clause : ℕ) (items : List ItemNode) : Type 0 where
  pub nodes : map node_item items ≡ (nodes_at P.skeleton clause).items
  pub body : map (item_of P.skeleton.nodes) (map node_item items) ≡ (clause_at P.program clause).body

-- A body of these items asks for no equation, whatever their nodes are.
abbrev pub AsksNothing : List ItemNode → Type 0
AsksNothing items = (put : Term → Term) (nodes : List Shape)
    → body_equations put (map (item_of nodes) (map node_item items)) ≡ []
