-- What tells that a call and a clause's head can't be made one.
use Rattle.std.specs.Prelude.{ℕ, ◌≡◌, ◌<◌, List, length}
use Rattle.and_model.specs.Terms.{Term, Substitution, apply}
use Rattle.and_model.specs.Solutions.{Equation, Solves}
use Rattle.and_model.specs.declared.numbers.NodeNo.{NodeNo}
use Rattle.and_model.specs.declared.reference.Ref.{Ref}
use Rattle.and_model.specs.declared.reference.Ref.TheVariants.{Node}
use Rattle.and_program.specs.Shown.{argument_of, count_of, shown_term}
use Rattle.and_cells.specs.Ranges.{NamedProgram, IsInRange}
use Rattle.and_cells.specs.Meaning.{equations_of}
use Rattle.and_determinacy.specs.Seeing.{ref_term, AreNoted}

-- The first term is the argument of the other at that place.
pub record IsArgument (t u : Term) (place : ℕ) : Type 0 where
  pub there : place < count_of (shown_term u)
  pub is : t ≡ argument_of u place

-- In whatever solves the row the reference is this structure.
pub record IsStructureAt (P : NamedProgram) (row : List Ref) (r : Ref) (node : NodeNo) (base : ℕ) : Type 0 where
  pub in_range : IsInRange P (length row) (Node node base)
  pub same : (s : Substitution) → Solves s (equations_of P row)
      → apply s (ref_term P r) ≡ apply s (ref_term P (Node node base))

-- Nothing that solves the row makes the terms one.
abbrev pub AreApart : NamedProgram → (row : List Ref) → Term → Term → Type 0
AreApart P row t u = (s : Substitution) → Solves s (equations_of P row) → apply s t ≡ apply s u → ⊥

-- Nothing that solves the row, and in which the variables are what was noted of them, meets the equations.
abbrev pub ArePartedBy : NamedProgram → (row given : List Ref) → List Equation → Type 0
ArePartedBy P row given es =
    (s : Substitution) → Solves s (equations_of P row) → AreNoted P given s → Solves s es → ⊥
