-- What a reduction adds to a tree's equations.
use Rattle.std.specs.Prelude.{ℕ, List, [], ◌∷◌}
use Rattle.and_model.specs.Terms.{Path, Term, framed}
use Rattle.and_model.specs.Solutions.{Equation, falsehood}
use Rattle.and_model.specs.Programs.{Program, Item, call, equal, arithmetic, fail, clause_at, head_in}

-- the equations of a body, with its terms put somewhere: its `=` items, and 0 = 1 for each `fail`
abbrev pub body_equations : (Term → Term) → List Item → List Equation
body_equations put [] = []
body_equations put (call g ∷ items) = body_equations put items
body_equations put (equal a b ∷ items) = (put a, put b) ∷ body_equations put items
body_equations put (arithmetic a ∷ items) = body_equations put items
body_equations put (fail ∷ items) = falsehood ∷ body_equations put items

-- the equations of a reduction: the call with the head that took it, and those of the body
abbrev pub reduction_equations : Program → Path → Term → (clause : ℕ) → List Equation
reduction_equations P p g c = (g, head_in P p c) ∷ body_equations (framed p) (clause_at P c).body
