-- The shapes and clauses that nodes and entries stand for.
use Rattle.std.specs.Prelude.{ℕ, List, map, length}
use Rattle.and_model.specs.Lines.{Bytes}
use Rattle.and_model.specs.Programs.{Clause}
use Rattle.and_program.specs.Skeletons
use Rattle.and_program.specs.Skeletons.{Shape, node_term, item_of}
use Rattle.and_program.specs.Items.{node_item}
use Rattle.and_program.specs.declared.node.Node.{Node}
use Rattle.and_program.specs.declared.node.Node.TheVariants.{Variable, Number, Compound}
use Rattle.and_program.specs.declared.entry.ClauseEntry.{ClauseEntry}
use Rattle.std.specs.declared.vec.Vec.{Vec}
use Rattle.std.specs.declared.alloc.Global.{Global}

-- the shape of a node
abbrev pub shape_of : Node → Shape
shape_of (Variable k) = Skeletons.variable k
shape_of (Number z) = Skeletons.number z
shape_of (Compound c ns) = Skeletons.compound c.0 (map (λ n. n.0) ns.items)

-- the names as bytes
abbrev pub names_of : List (Vec ℕ Global) → List Bytes
names_of ks = map (λ k. k.items) ks

-- the shapes of a list of nodes
abbrev pub shapes_of : List Node → List Shape
shapes_of ns = map shape_of ns

-- the clause that an entry is among nodes
abbrev pub entry_clause : List Shape → ClauseEntry → Clause
entry_clause ss e = record {
  head = node_term ss e.head.0;
  body = map (item_of ss) (map node_item e.items.items);
  variables = length e.variables.items;
  written = e.variables.items;
  line = e.line;
}
