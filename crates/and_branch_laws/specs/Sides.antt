-- What the sides of a goal of arithmetic come to in the cells of a frame.
use Rattle.std.specs.Prelude.{ℕ, ℤ, ◌≡◌, Bool, true, List, Option}
use Rattle.and_model.specs.Terms.{Term, Terms, is_ground, are_ground}
use Rattle.and_model.specs.Arithmetic.{Relation, value, holds}
use Rattle.and_model.specs.declared.reference.Ref.{Ref}
use Rattle.and_cells.specs.Ranges.{NamedProgram}
use Rattle.and_branch_laws.specs.Running.{IsRead, AreRead}

-- The term does not read as a ground one in the frame at the base.
abbrev pub IsOpen : NamedProgram → List Ref → (base : ℕ) → Term → Type 0
IsOpen P row base t = (u : Term) → IsRead P row base t u → is_ground u ≡ true → ⊥

-- Not all of these terms do.
abbrev pub AreOpen : NamedProgram → List Ref → (base : ℕ) → Terms → Type 0
AreOpen P row base ts = (us : Terms) → AreRead P row base ts us → are_ground us ≡ true → ⊥

-- The term reads as a ground one in the frame at the base, which has this value or none.
abbrev pub ComesTo : NamedProgram → List Ref → (base : ℕ) → Term → Option ℤ → Type 0
ComesTo P row base t v = (u : Term) × IsRead P row base t u × (is_ground u ≡ true) × (value u ≡ v)

-- Both terms read as ground terms, of which the comparison holds or not.
pub record AreCompared (P : NamedProgram) (row : List Ref) (base : ℕ) (o : Relation) (a b : Term)
    (outcome : Bool) : Type 0 where
  pub left : Term
  pub right : Term
  pub left_read : IsRead P row base a left
  pub right_read : IsRead P row base b right
  pub left_ground : is_ground left ≡ true
  pub right_ground : is_ground right ≡ true
  pub outcome_is : holds o left right ≡ outcome
