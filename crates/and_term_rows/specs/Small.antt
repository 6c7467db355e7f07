-- A small program, for trials of stores.
use Rattle.std.specs.Prelude.{ℕ, List, [], ◌∷◌}
use Rattle.and_program.specs.Skeletons.{compound, fail, Shape, NodeItem, NodeClause}
use Rattle.and_cells.specs.Ranges.{NamedProgram, no_program}

-- two names
abbrev pub two_nodes : List Shape
two_nodes = compound 0 [] ∷ compound 1 [] ∷ []

-- three goals that fail
abbrev pub three_items : List NodeItem
three_items = fail ∷ fail ∷ fail ∷ []

-- its nodes are the names, and its query has the goals
abbrev pub small_program : NamedProgram
small_program = record {
  program = no_program.program;
  skeleton = record { nodes = two_nodes; clauses = record { head = 0; items = three_items } ∷ [] };
}
