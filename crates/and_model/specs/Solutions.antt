-- Equations and their most general solutions (Lloyd, section 4; only idempotent most general unifiers are kept).
use Rattle.std.specs.Prelude.{ℕ, ◌≡◌, List, [], ◌∷◌, pos}
use Rattle.and_model.specs.Terms.{Path, Term, number, Substitution, apply}

abbrev pub Equation : Type 0
Equation = Term × Term

-- the substitution makes both sides of each equation the same term
abbrev pub Solves : Substitution → List Equation → Type 0
Solves s [] = Unit {0}
Solves s (e ∷ es) = (apply s e.0 ≡ apply s e.1) × Solves s es

abbrev pub Solvable : List Equation → Type 0
Solvable es = (s : Substitution) × Solves s es

-- every solution of the first list solves the second
abbrev pub Entails : List Equation → List Equation → Type 0
Entails es ds = (s : Substitution) → Solves s es → Solves s ds

-- a solution through which every other one goes
abbrev pub MostGeneral : Substitution → List Equation → Type 0
MostGeneral s es = Solves s es × ((t : Substitution) → Solves t es → (q : Path) (k : ℕ) → t q k ≡ apply t (s q k))

-- 0 = 1, which nothing solves
abbrev pub falsehood : Equation
falsehood = (number (pos 0), number (pos 1))
