-- The value of an expression under what is known of cells.
use Rattle.std.specs.Prelude.{ℕ, suc, ℤ, ◌≡◌, ◌≢◌, List, [], ◌∷◌, map, Contains, Some, None}
use Rattle.and_model.specs.Terms.{Path, Term, Terms, variables_of}
use Rattle.and_model.specs.Terms as terms
use Rattle.and_model.specs.Arithmetic.{value}
use Rattle.and_model.specs.declared.numbers.NodeNo.{NodeNo}
use Rattle.and_model.specs.declared.reference.Ref.{Ref}
use Rattle.and_model.specs.declared.reference.Ref.TheVariants.{Cell, Node, Number}
use Rattle.and_program.specs.Skeletons as shapes
use Rattle.and_program.specs.Loaded.{shape_at}
use Rattle.and_cells.specs.Ranges.{NamedProgram}
use Rattle.and_cells.specs.Seen.{Seen, Knows, LeadsTo}
use Rattle.and_cells.specs.Numbers.{number_of}
use Rattle.and_cells.specs.Meaning.{cell_variable}
use Rattle.and_cells.specs.Parts.{part_at, parts_of}

-- What an expression leads to: itself, what a cell that it leads to is known to be set to, and the parts of a
-- structure that it leads to.
pub data Reaches (P : NamedProgram) (s : Seen) (expression : Ref) : Ref → Type 0 where
  whole : (r : Ref) → r ≡ expression → Reaches P s expression r
  set : (cell : ℕ) (r : Ref) → Reaches P s expression (Cell cell) → Knows s cell r → Reaches P s expression r
  part : (node : NodeNo) (base : ℕ) (r : Ref) → Reaches P s expression (Node node base)
      → Contains (parts_of P (Node node base)) r → Reaches P s expression r

mutual
  -- KnownAs P s r t: the term of a reference under what is known. A cell that is not known to be set is a variable; a
  -- half has no term.
  pub data KnownAs (P : NamedProgram) (s : Seen) : Ref → Term → Type 0 where
    unbound : (cell : ℕ) → ((r : Ref) → Knows s cell r → ⊥) → KnownAs P s (Cell cell) (cell_variable cell)
    bound : (cell : ℕ) (r : Ref) (t : Term) → Knows s cell r → KnownAs P s r t → KnownAs P s (Cell cell) t
    integer : (pair : ℕ) (high low : Ref) → Knows s pair high → Knows s (suc pair) low
        → KnownAs P s (Number pair) (terms.number (number_of high low))
    literal : (node : NodeNo) (base : ℕ) (z : ℤ) → shape_at P.skeleton node.0 ≡ shapes.number z
        → KnownAs P s (Node node base) (terms.number z)
    structure : (node : NodeNo) (base name : ℕ) (arguments : List ℕ) (ts : Terms)
        → shape_at P.skeleton node.0 ≡ shapes.compound name arguments
        → AllKnownAs P s (map (part_at P base) arguments) ts → KnownAs P s (Node node base) (terms.compound name ts)

  -- the same of each reference of a list
  pub data AllKnownAs (P : NamedProgram) (s : Seen) : List Ref → Terms → Type 0 where
    no_parts : AllKnownAs P s [] terms.none
    more_parts : (r : Ref) (t : Term) (rs : List Ref) (ts : Terms) → KnownAs P s r t → AllKnownAs P s rs ts
        → AllKnownAs P s (r ∷ rs) (terms.more t ts)

-- The expression's term is known, and has this value. (A term with a value has no variable.)
abbrev pub HasValue : NamedProgram → Seen → Ref → ℤ → Type 0
HasValue P s expression z = (t : Term) × KnownAs P s expression t × (value t ≡ Some z)

-- Each chain of cells that the expression leads to is known up to what is no cell, and both words of each pair are
-- known.
pub record IsGround (P : NamedProgram) (s : Seen) (expression : Ref) : Type 0 where
  pub cells : (cell : ℕ) → Reaches P s expression (Cell cell)
      → (end : Ref) × LeadsTo s (Cell cell) end × ((c : ℕ) → end ≢ Cell c)
  pub pairs : (pair : ℕ) → Reaches P s expression (Number pair)
      → ((high : Ref) × Knows s pair high) × ((low : Ref) × Knows s (suc pair) low)

-- The expression is ground, and its term has no value. (Where it leads to a word of a pair, or around a circle, it
-- has no term.)
abbrev pub LacksValue : NamedProgram → Seen → Ref → Type 0
LacksValue P s expression = IsGround P s expression × ((t : Term) → KnownAs P s expression t → value t ≡ None)

-- The cell is the first variable of the expression's term from the left.
abbrev pub IsFirstFree : NamedProgram → Seen → Ref → (cell : ℕ) → Type 0
IsFirstFree P s expression cell = (t : Term) → KnownAs P s expression t
    → (others : List (Path × ℕ)) × (variables_of t ≡ ([], cell) ∷ others)
