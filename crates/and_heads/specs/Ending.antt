-- How paths are followed by one of them at a time.
use Rattle.std.specs.Prelude.{ℕ, List, length, false}
use Rattle.and_model.specs.declared.reference.Ref.{Ref}
use Rattle.and_cells.specs.Ranges.{NamedProgram, IsInRange}
use Rattle.and_cells.specs.Ends.{Ends}

-- A path goes on from one reference at another: where each path from that ends, so does each from this.
pub record GoesOn (P : NamedProgram) (row : List Ref) (floor : ℕ) (at next : Ref) : Type 0 where
  pub in_range : IsInRange P (length row) next
  pub ends : Ends P row floor false next → Ends P row floor false at
