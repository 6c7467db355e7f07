-- The variables of a tree, and cells that stand for them (this project's own).
use Rattle.std.specs.Prelude.{ℕ, ◌≡◌, not, List, [], map, Contains}
use Rattle.and_model.specs.Terms.{Path, variable, Substitution}
use Rattle.and_model.specs.Solutions.{Equation}
use Rattle.and_model.specs.Lines.{same_path}
use Rattle.and_cells.specs.Meaning.{cell_variable}
use Rattle.and_phase_laws.specs.Sharing.{Meant}

-- variables of a tree, each with its cell
abbrev pub Cells : Type 0
Cells = List ((Path × ℕ) × ℕ)

-- The cells as variables of a frame in which no clause stands. (A cell's own variable has the query's path.)
abbrev pub put_apart : (apart : Path) → Substitution
put_apart apart = λ q k. variable apart k

-- all variables but those of that frame
abbrev pub all_but : (apart : Path) → Meant
all_but apart q k = not (same_path q apart)

-- each variable is its cell
abbrev pub cell_equations : (apart : Path) → Cells → List Equation
cell_equations apart cells = map (λ (c : (Path × ℕ) × ℕ). (variable c.0.0 c.0.1, variable apart c.1)) cells

-- All of these variables are among those that have cells, and are named by them. No cell stands for two, and none of
-- the frame apart has one.
pub record AreCells (V : Path × ℕ → Type 0) (names : Substitution) (apart : Path) (cells : Cells) : Type 0 where
  pub named : (v : Path × ℕ) (n : ℕ) → Contains cells (v, n) → V v → names v.0 v.1 ≡ cell_variable n
  pub all : (v : Path × ℕ) → V v → (n : ℕ) × Contains cells (v, n)
  pub one : (u v : Path × ℕ) (n : ℕ) → Contains cells (u, n) → Contains cells (v, n) → u ≡ v
  pub elsewhere : (v : Path × ℕ) (n : ℕ) → Contains cells (v, n) → v.0 ≡ apart → ⊥

-- the variable is a cell
abbrev pub IsCell : Path × ℕ → Type 0
IsCell v = v.0 ≡ []

-- the variable is a cell that stands for some variable of the tree
abbrev pub IsNamedCell : Cells → Path × ℕ → Type 0
IsNamedCell cells v = (v.0 ≡ []) × ((u : Path × ℕ) × Contains cells (u, v.1))
