-- What nodes, items of bodies, and goals stand for in a row of words.
use Rattle.std.specs.Prelude.{ℕ, ◌+◌, ◌≡◌, List, [], ◌∷◌, length, Contains}
use Rattle.and_model.specs.Terms.{Path, Term, Substitution, variables_of, apply}
use Rattle.and_model.specs.Stands.{term_of}
use Rattle.and_model.specs.declared.goal.Goal.{Goal}
use Rattle.and_model.specs.declared.reference.Ref.{Ref}
use Rattle.and_model.specs.declared.reference.Ref.TheVariants.{Cell}
use Rattle.and_program.specs.Skeletons.{node_term, NodeItem, call, equal, is, compare, fail}
use Rattle.and_cells.specs.Ranges.{NamedProgram, IsNodeInRange, IsGoalInRange}
use Rattle.and_cells.specs.Meaning.{StandsFor}

-- A node in a frame: each variable of its term has the term of its cell.
pub record NodeMeans (P : NamedProgram) (row : List Ref) (node base : ℕ) (values : Substitution) : Type 0 where
  pub in_range : IsNodeInRange P (length row) node base
  pub cells : (v : Path × ℕ) → Contains (variables_of (node_term P.skeleton.nodes node)) v
      → StandsFor P row (Cell (base + 1 + v.1)) (values v.0 v.1)

-- so it is for the nodes of an item
abbrev pub ItemMeans : NamedProgram → List Ref → NodeItem → (base : ℕ) → Substitution → Type 0
ItemMeans P row (call g) base values = NodeMeans P row g base values
ItemMeans P row (equal l r) base values = NodeMeans P row l base values × NodeMeans P row r base values
ItemMeans P row (is l r pair) base values = NodeMeans P row l base values × NodeMeans P row r base values
ItemMeans P row (compare o l r) base values = NodeMeans P row l base values × NodeMeans P row r base values
ItemMeans P row fail base values = Unit {0}

-- The goal is in range, and stands for the term: each variable of it has the term of its cell.
pub record GoalMeans (P : NamedProgram) (row : List Ref) (g : Goal) (t : Term) : Type 0 where
  pub in_range : IsGoalInRange P (length row) g
  pub values : Substitution
  pub cells : (v : Path × ℕ) → Contains (variables_of (term_of P.program g)) v
      → StandsFor P row (Cell (g.base + 1 + v.1)) (values v.0 v.1)
  pub term : t ≡ apply values (term_of P.program g)

-- the goals stand for the terms, one after another
abbrev pub GoalsMean : NamedProgram → List Ref → List Goal → List Term → Type 0
GoalsMean P row [] [] = Unit {0}
GoalsMean P row [] (t ∷ ts) = ⊥
GoalsMean P row (g ∷ gs) [] = ⊥
GoalsMean P row (g ∷ gs) (t ∷ ts) = GoalMeans P row g t × GoalsMean P row gs ts
