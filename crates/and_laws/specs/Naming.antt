-- Of which variables terms and equations speak, and equations whose variables were renamed.
use Rattle.std.specs.Prelude.{ℕ, ◌≡◌, Bool, true, not, List, [], ◌∷◌, map}
use Rattle.and_model.specs.Terms.{Path, Term, Terms, variable, number, compound, none, more, Substitution, apply}
use Rattle.and_model.specs.Solutions.{Equation}

-- some variables, told by a test
abbrev pub Variables : Type 0
Variables = Path → ℕ → Bool

abbrev mutual
  -- the term has no others
  pub IsOver : Variables → Term → Type 0
  IsOver v (variable q k) = v q k ≡ true
  IsOver v (number z) = Unit {0}
  IsOver v (compound c ts) = AreOver v ts

  pub AreOver : Variables → Terms → Type 0
  AreOver v none = Unit {0}
  AreOver v (more t ts) = IsOver v t × AreOver v ts

-- the equations have no others
abbrev pub EquationsOver : Variables → List Equation → Type 0
EquationsOver v [] = Unit {0}
EquationsOver v (e ∷ es) = IsOver v e.0 × IsOver v e.1 × EquationsOver v es

-- all variables but these
abbrev pub others : Variables → Variables
others v q k = not (v q k)

-- the two substitutions give these variables the same terms
abbrev pub Agree : Variables → Substitution → Substitution → Type 0
Agree v s r = (q : Path) (k : ℕ) → v q k ≡ true → r q k ≡ s q k

-- the equations under a substitution
abbrev pub under : Substitution → List Equation → List Equation
under r es = map (λ (e : Equation). (apply r e.0, apply r e.1)) es
