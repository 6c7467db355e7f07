-- What a term begins with, as it is found in a row of words.
use Rattle.std.specs.Prelude.{ℕ, zero, suc, ◌+◌, ◌≡◌, Bool, false, List, length, Contains, nat_eq}
use Rattle.and_model.specs.Terms.{Path, Term, Terms, variable, number, compound, none, more, variables_in}
use Rattle.and_model.specs.Terms.{Substitution, apply_all}
use Rattle.and_model.specs.Lines.{is_cell, is_nil, point_name}
use Rattle.and_model.specs.Terms.{width}
use Rattle.and_program.specs.Skeletons.{node_term}
use Rattle.and_program.specs.Loaded.{arguments_at}
use Rattle.and_model.specs.declared.reference.Ref.{Ref}
use Rattle.and_model.specs.declared.reference.Ref.TheVariants.{Free, Cell}
use Rattle.and_cells.specs.Ranges.{NamedProgram, IsInRange, IsNodeInRange}
use Rattle.and_cells.specs.Seen.{word_at}
use Rattle.and_cells.specs.Meaning.{StandsFor, cell_variable}
use Rattle.and_print.specs.declared.roots.Arguments.{Arguments}
use Rattle.and_print.specs.declared.roots.Root.{Root}
use Rattle.and_print.specs.declared.roots.Root.TheVariants.{Variable, Number, Compound}

-- The reference is in range, and stands for the term.
pub record Means (P : NamedProgram) (row : List Ref) (r : Ref) (t : Term) : Type 0 where
  pub in_range : IsInRange P (length row) r
  pub stands : StandsFor P row r t

-- a cell where a chain ends is free
abbrev pub IsEnd : List Ref → Ref → Type 0
IsEnd row r = (cell : ℕ) → r ≡ Cell cell → word_at row cell ≡ Free

-- a list of terms without so many of the first
abbrev pub terms_from : ℕ → Terms → Terms
terms_from zero ts = ts
terms_from (suc n) none = none
terms_from (suc n) (more t ts) = terms_from n ts

-- These are the arguments of a structure from a place on: each variable of them has the term of its cell.
pub record ArgumentsMean (P : NamedProgram) (row : List Ref) (a : Arguments) (ts : Terms) : Type 0 where
  pub in_range : IsNodeInRange P (length row) a.node.0 a.base
  pub counted : a.count ≡ length (arguments_at P.skeleton a.node.0)
  pub name : ℕ
  pub all : Terms
  pub node : node_term P.skeleton.nodes a.node.0 ≡ compound name all
  pub width_is : width all ≡ a.count
  pub values : Substitution
  pub cells : (v : Path × ℕ) → Contains (variables_in all) v
      → StandsFor P row (Cell (a.base + 1 + v.1)) (values v.0 v.1)
  pub terms : ts ≡ apply_all values (terms_from a.place all)

-- the term begins so
abbrev pub RootMeans : NamedProgram → List Ref → Root → Term → Type 0
RootMeans P row (Variable cell) t = t ≡ cell_variable cell
RootMeans P row (Number z) t = t ≡ number z
RootMeans P row (Compound name a) t = (ts : Terms) × (t ≡ compound name.0 ts) × ArgumentsMean P row a ts

-- A first term, and those after it.
pub record Splits (P : NamedProgram) (row : List Ref) (first : Ref) (rest : Arguments) (ts : Terms) : Type 0 where
  pub term : Term
  pub terms : Terms
  pub both : ts ≡ more term terms
  pub first_means : Means P row first term
  pub rest_means : ArgumentsMean P row rest terms

-- Both terms of a list of two.
pub record Pairs (P : NamedProgram) (row : List Ref) (left right : Ref) (ts : Terms) : Type 0 where
  pub one : Term
  pub other : Term
  pub both : ts ≡ more one (more other none)
  pub left_means : Means P row left one
  pub right_means : Means P row right other

-- A list cell with this head and this tail.
pub record IsListCell (P : NamedProgram) (row : List Ref) (head tail : Ref) (t : Term) : Type 0 where
  pub terms : Terms
  pub cell : t ≡ compound point_name terms
  pub pair : Pairs P row head tail terms

-- what is named as a list cell is
abbrev pub has_cell_name : Root → Bool
has_cell_name (Variable cell) = false
has_cell_name (Number z) = false
has_cell_name (Compound name a) = nat_eq name.0 point_name

abbrev pub is_list_cell : Term → Bool
is_list_cell (variable q k) = false
is_list_cell (number z) = false
is_list_cell (compound c ts) = is_cell c ts

abbrev pub is_empty_list : Term → Bool
is_empty_list (variable q k) = false
is_empty_list (number z) = false
is_empty_list (compound c ts) = is_nil c ts
