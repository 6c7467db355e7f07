-- The program of what was loaded, and its skeleton.
use Rattle.std.specs.Prelude.{ℕ, List, [], ◌∷◌, map, get_or, pos}
use Rattle.and_model.specs.Lines.{Bytes}
use Rattle.and_model.specs.Programs.{Program}
use Rattle.and_program.specs.Skeletons
use Rattle.and_program.specs.Skeletons.{Shape, NodeClause, Skeleton}
use Rattle.and_program.specs.Items.{node_item}
use Rattle.and_program.specs.Nodes.{shapes_of, names_of, entry_clause}
use Rattle.and_program.specs.Shown.{arguments_in}
use Rattle.and_program.specs.declared.entry.ClauseEntry.{ClauseEntry}
use Rattle.and_program.specs.declared.loaded.Loaded.{Loaded}

-- the program of a query and clauses among nodes, with these names
abbrev pub program_in : List Shape → ClauseEntry → List ClauseEntry → List Bytes → Program
program_in ss query es names =
    record { clauses = map (entry_clause ss) es; query = entry_clause ss query; names = names }

abbrev pub program_of : Loaded → Program
program_of l = program_in (shapes_of l.nodes.items) l.query l.clauses.items (names_of l.names.keys)

-- a clause or the query, by its nodes
abbrev pub node_clause : ClauseEntry → NodeClause
node_clause e = record { head = e.head.0; items = map node_item e.items.items }

abbrev pub skeleton_of : Loaded → Skeleton
skeleton_of l = record { nodes = shapes_of l.nodes.items; clauses = map node_clause (l.query ∷ l.clauses.items) }

-- the clause of that number, or the query
abbrev pub entry_at : Loaded → ℕ → ClauseEntry
entry_at l n = get_or (l.query ∷ l.clauses.items) n l.query

-- its nodes (a number that names none stands for an empty clause)
abbrev pub nodes_at : Skeleton → ℕ → NodeClause
nodes_at S n = get_or S.clauses n (record { head = 0; items = [] })

-- the shape of a node (a number that names none stands for the number 0)
abbrev pub shape_at : Skeleton → ℕ → Shape
shape_at S n = get_or S.nodes n (Skeletons.number (pos 0))

-- the nodes of the arguments of a node
abbrev pub arguments_at : Skeleton → ℕ → List ℕ
arguments_at S n = arguments_in (shape_at S n)

-- the nodes, the clauses and the names of which it is made
abbrev pub nodes_in : Loaded → List Shape
nodes_in l = shapes_of l.nodes.items

abbrev pub entries_in : Loaded → List ClauseEntry
entries_in l = l.clauses.items

abbrev pub names_in : Loaded → List Bytes
names_in l = names_of l.names.keys
