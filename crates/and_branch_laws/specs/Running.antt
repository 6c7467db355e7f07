-- What is read in the cells for the terms of a goal.
use Rattle.std.specs.Prelude.{ℕ, ◌+◌, ◌≡◌, List, Contains}
use Rattle.and_model.specs.Terms.{Path, Term, Terms, none, more, variables_of, Substitution, apply}
use Rattle.and_model.specs.declared.reference.Ref.{Ref}
use Rattle.and_model.specs.declared.reference.Ref.TheVariants.{Cell}
use Rattle.and_cells.specs.Ranges.{NamedProgram}
use Rattle.and_cells.specs.Meaning.{StandsFor}

-- The term of a clause, in the frame at the base, reads so: each variable has the term that its cell stands for.
pub record IsRead (P : NamedProgram) (row : List Ref) (base : ℕ) (t u : Term) : Type 0 where
  pub values : Substitution
  pub cells : (v : Path × ℕ) → Contains (variables_of t) v → StandsFor P row (Cell (base + 1 + v.1)) (values v.0 v.1)
  pub reads : u ≡ apply values t

-- so do these terms, one after another
abbrev pub AreRead : NamedProgram → List Ref → (base : ℕ) → (ts us : Terms) → Type 0
AreRead P row base none none = Unit {0}
AreRead P row base none (more u us) = ⊥
AreRead P row base (more t ts) none = ⊥
AreRead P row base (more t ts) (more u us) = IsRead P row base t u × AreRead P row base ts us
