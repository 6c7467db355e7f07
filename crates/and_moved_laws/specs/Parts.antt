-- Rows of cells that are part of others: some frames are left out, and the others moved.
use Rattle.std.specs.Prelude.{ℕ, suc, false, ◌+◌, ◌<◌, ◌≤◌, ◌≡◌, List, [], ◌∷◌, length, Contains}
use Rattle.and_model.specs.Terms.{Path, Term, variable, variables_of, Substitution}
use Rattle.and_program.specs.Skeletons.{node_term}
use Rattle.and_model.specs.Stands.{Framed, term_of}
use Rattle.and_model.specs.Store.{is_half}
use Rattle.and_model.specs.declared.goal.Goal.{Goal}
use Rattle.and_model.specs.declared.numbers.NodeNo.{NodeNo}
use Rattle.and_model.specs.declared.reference.Ref.{Ref}
use Rattle.and_model.specs.declared.reference.Ref.TheVariants.{Free, Cell, Node, Number, Half}
use Rattle.and_cells.specs.Ranges.{NamedProgram}
use Rattle.and_cells.specs.Seen.{word_at}
use Rattle.and_cells.specs.Meaning.{cell_variable}

-- the reference in the whole row that a reference of the part is, where `at` says which place of the whole row each
-- place of the part is
abbrev pub moved : (at : ℕ → ℕ) → Ref → Ref
moved at Free = Free
moved at (Cell cell) = Cell (at cell)
moved at (Node node base) = Node node (at base)
moved at (Number pair) = Number (at pair)
moved at (Half bits) = Half bits

-- each cell as a variable named anew so (the variables of frames stay)
abbrev pub moving : (at : ℕ → ℕ) → Substitution
moving at [] cell = cell_variable (at cell)
moving at (n ∷ q) k = variable (n ∷ q) k

-- The cells of the term's variables in the frame at the base were moved together with the base.
abbrev pub MovesTogether : (at : ℕ → ℕ) → (base : ℕ) → Term → Type 0
MovesTogether at base t = (v : Path × ℕ) → Contains (variables_of t) v → at (base + 1 + v.1) ≡ at base + 1 + v.1

-- What the reference names was moved together: the cells of a node's variables with the base of the frame, and the two
-- words of a pair.
abbrev pub IsTogether : NamedProgram → (at : ℕ → ℕ) → Ref → Type 0
IsTogether P at Free = Unit {0}
IsTogether P at (Cell cell) = Unit {0}
IsTogether P at (Node node base) = MovesTogether at base (node_term P.skeleton.nodes node.0)
IsTogether P at (Number pair) = at (suc pair) ≡ suc (at pair)
IsTogether P at (Half bits) = Unit {0}

-- The row is part of the whole one: `at` says which place there each of its places is.
pub record IsPartOf (P : NamedProgram) (at : ℕ → ℕ) (part whole : List Ref) : Type 0 where
  -- The order of places stays,
  pub rises : (p q : ℕ) → p < q → at p < at q
  -- and what is put behind the part is put behind the whole row.
  pub beyond : (k : ℕ) → at (length part + k) ≡ length whole + k
  -- The words are the same, but that what they name was moved,
  pub words : (place : ℕ) → word_at whole (at place) ≡ moved at (word_at part place)
  -- each with what belongs to it.
  pub together : (place : ℕ) → IsTogether P at (word_at part place)

-- Each frame that the row names begins within it, and what is named there was moved together. (What settles the part
-- of a row names in it such frames alone.)
pub record NamesTogether (P : NamedProgram) (at : ℕ → ℕ) (row : List Ref) : Type 0 where
  pub within : (place : ℕ) (node : NodeNo) (base : ℕ) → word_at row place ≡ Node node base → base ≤ length row
  pub together : (place : ℕ) → IsTogether P at (word_at row place)

-- The goal can be moved with the part: the cells of its variables are in it, none is a word of a pair, and each was
-- moved together with the frame's base.
pub record IsGoalOfPart (P : NamedProgram) (at : ℕ → ℕ) (part : List Ref) (g : Goal) : Type 0 where
  pub within : (v : Path × ℕ) → Contains (variables_of (term_of P.program g)) v → g.base + 1 + v.1 < length part
  pub whole : (v : Path × ℕ) → Contains (variables_of (term_of P.program g)) v
      → is_half (word_at part (g.base + 1 + v.1)) ≡ false
  pub together : MovesTogether at g.base (term_of P.program g)

-- the goal in the whole row: its frame begins where the base was moved
abbrev pub goal_moved : (at : ℕ → ℕ) → Goal → Goal
goal_moved at g = record { node = g.node; item = g.item; clause = g.clause; base = at g.base }

-- the same with the path of its frame
abbrev pub framed_moved : (at : ℕ → ℕ) → Framed → Framed
framed_moved at f = record { goal = goal_moved at f.goal; frame = f.frame }
