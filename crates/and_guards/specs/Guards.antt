-- What the comparisons of a clause's guard come to in the cells of a frame.
use Rattle.std.specs.Prelude.{ℕ, ◌≡◌, true, false, List, [], ◌∷◌, ◌⊎◌}
use Rattle.and_model.specs.Terms.{Term, is_ground}
use Rattle.and_model.specs.Arithmetic.{Relation, holds}
use Rattle.and_model.specs.declared.reference.Ref.{Ref}
use Rattle.and_program.specs.Skeletons.{NodeItem, call, equal, is, compare, fail, node_term}
use Rattle.and_cells.specs.Ranges.{NamedProgram}
use Rattle.and_branch_laws.specs.Running.{IsRead}
pub use Rattle.and_branch_laws.specs.Goals.{CanBeRead}

-- So it is with each node of the guard with which these items begin.
abbrev pub GuardCanBeRead : NamedProgram → (row : List Ref) → (base : ℕ) → List NodeItem → Type 0
GuardCanBeRead P row base [] = Unit {0}
GuardCanBeRead P row base (compare relation n m ∷ items) =
    CanBeRead P row base n × CanBeRead P row base m × GuardCanBeRead P row base items
GuardCanBeRead P row base (call n ∷ items) = Unit {0}
GuardCanBeRead P row base (equal n m ∷ items) = Unit {0}
GuardCanBeRead P row base (is n m pair ∷ items) = Unit {0}
GuardCanBeRead P row base (fail ∷ items) = Unit {0}

-- In the frame at the base both terms read as ground terms, of which the comparison does not hold.
pub record IsFalseIn (P : NamedProgram) (row : List Ref) (base : ℕ) (relation : Relation) (a b : Term) : Type 0 where
  pub left : Term
  pub right : Term
  pub left_read : IsRead P row base a left
  pub right_read : IsRead P row base b right
  pub left_ground : is_ground left ≡ true
  pub right_ground : is_ground right ≡ true
  pub fails : holds relation left right ≡ false

-- Some comparison of the guard with which these items begin is false.
abbrev pub IsGuardFalse : NamedProgram → (row : List Ref) → (base : ℕ) → List NodeItem → Type 0
IsGuardFalse P row base [] = ⊥
IsGuardFalse P row base (compare relation n m ∷ items) =
    IsFalseIn P row base relation (node_term P.skeleton.nodes n) (node_term P.skeleton.nodes m)
    ⊎ IsGuardFalse P row base items
IsGuardFalse P row base (call n ∷ items) = ⊥
IsGuardFalse P row base (equal n m ∷ items) = ⊥
IsGuardFalse P row base (is n m pair ∷ items) = ⊥
IsGuardFalse P row base (fail ∷ items) = ⊥
