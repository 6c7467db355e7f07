-- What a look at a number tells.
use Rattle.std.proofs.Common.{ℕ, ℤ, ◌≡◌, ◌≢◌, ◌<◌, List, length, Option, Some, None, sym, subst}
use Rattle.std.specs.Prelude.{IfSome}
use Rattle.and_model.specs.Arithmetic.{of_two}
use Rattle.and_model.specs.declared.numbers.NodeNo.{NodeNo}
use Rattle.and_model.specs.declared.reference.Ref.{Ref}
use Rattle.and_model.specs.declared.reference.Ref.TheVariants.{Free, Cell, Node}
use Rattle.and_cells.specs.Ranges.{NamedProgram, CanHold, IsInRangeOrHalf}
use Rattle.and_cells.specs.Rows.{plain, IsSound}
use Rattle.and_cells.specs.Seen.{IsWrittenIfNumber, LeadsTo, word_at}
use Rattle.and_cells.proofs.Chains.{leads_on, written_since_known, held_in_range}
use Rattle.and_arith.specs.Glances.{IsNumber, IsOfTwo}
use Rattle.and_arith.specs.declared.values.Valued.TheVariants as valued
use Rattle.and_arith.proofs.Telling.{both_told, chain_told}

-- The number that an operation on two numbers gives.
pub operation_known : (P : NamedProgram) (row : List Ref) (node : NodeNo) (base name : ℕ) (one other : Ref) → IsOfTwo P node base name one other
    → (x y : ℤ) → IsNumber P (plain row) one x → IsNumber P (plain row) other y → (v : Option ℤ) → v ≡ of_two name x y
    → IfSome v (IsNumber P (plain row) (Node node base))
operation_known P row node base name one other two x y first second None is = tt
operation_known P row node base name one other two x y first second (Some z) is =
    both_told P row node base name one other two x y first second (valued.Number z) (sym is)

module _ (P : NamedProgram) (row : List Ref) (from cell : ℕ) (leads : LeadsTo (plain row) (Cell from) (Cell cell)) (below : cell < length row)
    (sound : IsSound P row) (r : Ref) (is : word_at row cell ≡ r) (other : r ≢ Free) where
  -- The chain goes on to what the cell is set to,
  pub leads_further : LeadsTo (plain row) (Cell from) r
  leads_further = leads_on (plain row) (Cell from) cell r leads (is, other)

  -- which is in range,
  pub set_in_range : IsInRangeOrHalf P (length row) r
  set_in_range = held_in_range P (length row) cell r below other (subst (CanHold P (length row) cell) is (sound.fits cell))

  -- and written, where it is a number.
  pub set_written : IsWrittenIfNumber (plain row) r
  set_written = written_since_known (plain row) cell r (is, other)

  -- The number that it is is that of the first cell.
  pub number_further : (z : ℤ) → IsNumber P (plain row) r z → IsNumber P (plain row) (Cell from) z
  number_further z n = chain_told P row (Cell from) r (valued.Number z) leads_further n
