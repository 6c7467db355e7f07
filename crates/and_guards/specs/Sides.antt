-- What is known of the sides of a comparison, and what that says of it.
use Rattle.std.specs.Prelude.{ℕ, Bool, true, false, not, List, [], ◌∷◌, Some, None}
use Rattle.and_model.specs.Terms.{Term}
use Rattle.and_model.specs.Arithmetic.{Relation, related}
use Rattle.and_model.specs.declared.reference.Ref.{Ref}
use Rattle.and_cells.specs.Ranges.{NamedProgram}
use Rattle.and_cells.specs.Rows.{IsSound}
pub use Rattle.and_branch_laws.specs.Sides.{IsOpen}
use Rattle.and_branch_laws.specs.Sides.{ComesTo}
use Rattle.and_cells.specs.Seen.{Grows, AreFree}
use Rattle.and_guards.specs.declared.guards.Side.{Side}
use Rattle.and_guards.specs.declared.guards.Side.TheVariants.{Waits, NoValue, Number}

-- The term does not read as a ground one in whatever row this one grows to while the cell is free.
abbrev pub IsOpenBy : NamedProgram → List Ref → (base : ℕ) → Term → (cell : ℕ) → Type 0
IsOpenBy P row base t cell = (later : List Ref) → Grows row later → IsSound P later → AreFree later (cell ∷ [])
    → IsOpen P later base t

-- This is what a term comes to in the frame at the base.
abbrev pub IsSide : NamedProgram → List Ref → (base : ℕ) → Term → Side → Type 0
IsSide P row base t (Waits cell) = IsOpen P row base t × IsOpenBy P row base t cell
IsSide P row base t NoValue = ComesTo P row base t None
IsSide P row base t (Number z) = ComesTo P row base t (Some z)

abbrev pub is_waiting : Side → Bool
is_waiting (Waits cell) = true
is_waiting NoValue = false
is_waiting (Number z) = false

-- the comparison of these sides is false: neither waits, and they have no values that stand in the relation
abbrev pub sides_fail : Relation → Side → Side → Bool
sides_fail o (Waits cell) side = false
sides_fail o NoValue side = not (is_waiting side)
sides_fail o (Number a) (Waits cell) = false
sides_fail o (Number a) NoValue = true
sides_fail o (Number a) (Number b) = not (related o a b)
