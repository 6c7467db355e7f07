-- What a look at an expression tells of its value.
use Rattle.std.specs.Prelude.{ℕ, ℤ, ◌≡◌, List, [], ◌∷◌, Some}
use Rattle.and_model.specs.Terms.{Term, variables_of}
use Rattle.and_model.specs.Arithmetic.{value, operated}
use Rattle.and_model.specs.declared.numbers.NodeNo.{NodeNo}
use Rattle.and_model.specs.declared.reference.Ref.{Ref}
use Rattle.and_model.specs.declared.reference.Ref.TheVariants as reference
use Rattle.and_cells.specs.Ranges.{NamedProgram}
use Rattle.and_cells.specs.Rows.{plain}
use Rattle.and_cells.specs.Seen.{Seen, word_at}
use Rattle.and_cells.specs.Parts.{parts_of}
use Rattle.and_arith.specs.Turns.{IsStructureAt}
use Rattle.and_value_laws.specs.Values.{KnownAs, Reaches, IsFirstFree}
use Rattle.and_arith.specs.declared.values.Valued.{Valued}
use Rattle.and_arith.specs.declared.values.Valued.TheVariants.{Number, NoValue, Waits, PutOff, Memory}

-- The expression's term is known, and has this value and no variable.
pub record IsNumber (P : NamedProgram) (s : Seen) (expression : Ref) (z : ℤ) : Type 0 where
  pub term : (t : Term) × KnownAs P s expression t
  pub each : (t : Term) → KnownAs P s expression t → (value t ≡ Some z) × (variables_of t ≡ [])

-- This much is told of an expression over plain cells: its value, or its first variable, or nothing.
abbrev pub IsTold : NamedProgram → List Ref → Ref → Valued → Type 0
IsTold P row r (Number z) = IsNumber P (plain row) r z
IsTold P row r NoValue = Unit {0}
IsTold P row r (Waits cell) =
    (word_at row cell ≡ reference.Free) × Reaches P (plain row) r (reference.Cell cell)
    × IsFirstFree P (plain row) r cell
IsTold P row r PutOff = Unit {0}
IsTold P row r Memory = Unit {0}

-- This much is told by an operation on two numbers.
abbrev pub IsGivenBy : (name : ℕ) → (x y : ℤ) → Valued → Type 0
IsGivenBy name x y (Number z) = operated name (Some x ∷ Some y ∷ []) ≡ Some z
IsGivenBy name x y NoValue = Unit {0}
IsGivenBy name x y (Waits cell) = ⊥
IsGivenBy name x y PutOff = Unit {0}
IsGivenBy name x y Memory = Unit {0}

-- The node is a name with two arguments, which are found there.
pub record IsOfTwo (P : NamedProgram) (node : NodeNo) (base name : ℕ) (one other : Ref) : Type 0 where
  pub is : IsStructureAt P node
  pub called : name ≡ is.name
  pub both : parts_of P (reference.Node node base) ≡ one ∷ other ∷ []
