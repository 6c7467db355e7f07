-- Nodes and goals that can be read in a row.
use Rattle.std.specs.Prelude.{ℕ, ◌+◌, ◌≡◌, false, List, length, slice_get, Some, Contains}
use Rattle.and_model.specs.Terms.{Path, Term, variables_of}
use Rattle.and_model.specs.Programs.{call}
use Rattle.and_model.specs.Stands.{term_of}
use Rattle.and_model.specs.Store.{is_half}
use Rattle.and_model.specs.declared.goal.Goal.{Goal}
use Rattle.and_model.specs.declared.reference.Ref.{Ref}
use Rattle.and_program.specs.Skeletons
use Rattle.and_program.specs.Skeletons.{node_term}
use Rattle.and_program.specs.Loaded.{nodes_at}
use Rattle.and_cells.specs.Ranges.{NamedProgram, IsNodeInRange, IsGoalInRange}
use Rattle.and_cells.specs.Seen.{word_at}
use Rattle.and_branch_laws.specs.Kept.{item_at}

-- The node can be read in the frame at the base: it is in range, and no cell of its variables is a word of a pair.
pub record CanBeRead (P : NamedProgram) (row : List Ref) (base node : ℕ) : Type 0 where
  pub in_range : IsNodeInRange P (length row) node base
  pub whole : (v : Path × ℕ) → Contains (variables_of (node_term P.skeleton.nodes node)) v
      → is_half (word_at row (base + 1 + v.1)) ≡ false

-- The goal can be judged in the row: it is in range, it is a call, and no cell of its variables is a word of a pair.
pub record CanBeJudged (P : NamedProgram) (row : List Ref) (g : Goal) : Type 0 where
  pub in_range : IsGoalInRange P (length row) g
  pub term : Term
  pub is_call : item_at P.program g ≡ call term
  pub whole : (v : Path × ℕ) → Contains (variables_of (term_of P.program g)) v
      → is_half (word_at row (g.base + 1 + v.1)) ≡ false

-- The node is that of the goal: it stands there in the body, has the goal's term, and can be read.
pub record IsNodeOf (P : NamedProgram) (row : List Ref) (g : Goal) (node : ℕ) : Type 0 where
  pub there : slice_get (nodes_at P.skeleton g.clause.0).items g.item ≡ Some (Skeletons.call node)
  pub term : term_of P.program g ≡ node_term P.skeleton.nodes node
  pub reads : CanBeRead P row g.base node
