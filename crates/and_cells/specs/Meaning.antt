-- The terms that references stand for in a row of words, and the equations that the row states (structure sharing:
-- Boyer and Moore, 1972). A free cell is a variable, whose number is the cell's.
use Rattle.std.specs.Prelude.{ℕ, suc, ◌+◌, ◌<◌, ◌≡◌, false, not, List, [], ◌∷◌, ◌++◌, map, filter, flat_map, length}
use Rattle.std.specs.Prelude.{Contains, Option, Some, None}
use Rattle.and_model.specs.Terms.{Path, Term, Substitution, variable, number, apply, variables_of}
use Rattle.and_model.specs.Solutions.{Equation, falsehood}
use Rattle.and_model.specs.Store.{Setting, set_in, is_half}
use Rattle.and_program.specs.Skeletons.{node_term}
use Rattle.and_model.specs.declared.numbers.NodeNo.{NodeNo}
use Rattle.and_model.specs.declared.reference.Ref.{Ref}
use Rattle.and_model.specs.declared.reference.Ref.TheVariants.{Free, Cell, Node, Number, Half}
use Rattle.and_cells.specs.Ranges.{NamedProgram}
use Rattle.and_cells.specs.Numbers.{number_of}
use Rattle.and_cells.specs.Seen.{word_at, IsSetTo, LeadsTo}
use Rattle.and_cells.specs.Rows.{plain}

-- what the word at each place is
abbrev pub Words : Type 0
Words = ℕ → Ref

-- the cell as a variable
abbrev pub cell_variable : ℕ → Term
cell_variable cell = variable [] cell

-- the number that a pair of words holds
abbrev pub number_in : Words → (pair : ℕ) → Term
number_in w pair = number (number_of (w pair) (w (suc pair)))

-- StandsFor P row r t: the whole term of a reference, with chains followed and cells replaced by their terms. A half
-- stands for none.
pub data StandsFor (P : NamedProgram) (row : List Ref) : Ref → Term → Type 0 where
  -- a free cell is a variable,
  unbound : (cell : ℕ) → cell < length row → word_at row cell ≡ Free → StandsFor P row (Cell cell) (cell_variable cell)
  -- a set one has the term of what it is set to,
  bound : (cell : ℕ) (r : Ref) (t : Term) → IsSetTo row cell r → StandsFor P row r t → StandsFor P row (Cell cell) t
  -- a node has its own term, in which variable k is the term of the cell `base + 1 + k`,
  structure : (node : NodeNo) (base : ℕ) (s : Substitution)
      → ((v : Path × ℕ) → Contains (variables_of (node_term P.skeleton.nodes node.0)) v
      → StandsFor P row (Cell (base + 1 + v.1)) (s v.0 v.1))
      → StandsFor P row (Node node base) (apply s (node_term P.skeleton.nodes node.0))
  -- and a number is that of its pair.
  integer : (pair : ℕ) → StandsFor P row (Number pair) (number_in (word_at row) pair)

-- The term of the reference holds this cell: chains and nodes lead to it.
pub data Holds (P : NamedProgram) (row : List Ref) : Ref → (cell : ℕ) → Type 0 where
  here : (cell : ℕ) → Holds P row (Cell cell) cell
  onward : (start : ℕ) (r : Ref) (cell : ℕ) → IsSetTo row start r → Holds P row r cell → Holds P row (Cell start) cell
  inside : (node : NodeNo) (base : ℕ) (v : Path × ℕ) (cell : ℕ)
      → Contains (variables_of (node_term P.skeleton.nodes node.0)) v
      → Holds P row (Cell (base + 1 + v.1)) cell → Holds P row (Node node base) cell

-- The cell's term properly contains the cell.
pub record IsCircle (P : NamedProgram) (row : List Ref) (cell : ℕ) : Type 0 where
  pub node : NodeNo
  pub base : ℕ
  pub leads : LeadsTo (plain row) (Cell cell) (Node node base)
  pub holds : Holds P row (Node node base) cell

-- No cell's term properly contains the cell, and no set word that is no half has a term which holds a chain ending in
-- a word of a pair.
pub record IsSettled (P : NamedProgram) (row : List Ref) : Type 0 where
  pub no_circle : (cell : ℕ) → IsCircle P row cell → ⊥
  pub no_half : (place : ℕ) (r : Ref) (cell : ℕ) → IsSetTo row place r → is_half r ≡ false → Holds P row r cell
      → is_half (word_at row cell) ≡ false

-- the term of a reference with cells as variables: no chain is followed
abbrev pub shallow_term : NamedProgram → Words → Ref → Option Term
shallow_term P w Free = None
shallow_term P w (Cell cell) = Some (cell_variable cell)
shallow_term P w (Node node base) =
    Some (apply (λ q k. cell_variable (base + 1 + k)) (node_term P.skeleton.nodes node.0))
shallow_term P w (Number pair) = Some (number_in w pair)
shallow_term P w (Half bits) = None

-- the cells that a reference names, with no chain followed
abbrev pub shallow_cells : NamedProgram → Ref → List ℕ
shallow_cells P Free = []
shallow_cells P (Cell cell) = cell ∷ []
shallow_cells P (Node node base) =
    map (λ (v : Path × ℕ). base + 1 + v.1) (variables_of (node_term P.skeleton.nodes node.0))
shallow_cells P (Number pair) = []
shallow_cells P (Half bits) = []

abbrev pub same_terms : Option Term → Option Term → List Equation
same_terms None u = falsehood ∷ []
same_terms (Some t) None = falsehood ∷ []
same_terms (Some t) (Some u) = (t, u) ∷ []

-- Two references are the same term, and none of the cells that they name is a word of a pair, since that has no term.
abbrev pub equations_between : NamedProgram → Words → Ref → Ref → List Equation
equations_between P w left right =
    same_terms (shallow_term P w left) (shallow_term P w right)
    ++ map (λ (cell : ℕ). falsehood)
    (filter (λ (cell : ℕ). is_half (w cell)) (shallow_cells P left ++ shallow_cells P right))

-- the equations of a row: each cell that is set, but to no half, is what it is set to
abbrev pub equations_of : NamedProgram → List Ref → List Equation
equations_of P row =
    flat_map (λ (s : Setting). equations_between P (word_at row) (Cell s.place) s.value)
    (filter (λ (s : Setting). not (is_half s.value)) (set_in row))
