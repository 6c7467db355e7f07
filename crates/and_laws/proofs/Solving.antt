-- Solutions of lists of equations.
use Rattle.std.proofs.Common.{List, [], ◌∷◌, ◌++◌, ap, sym, ◌∙◌}
use Rattle.and_model.specs.Terms.{Term, Substitution, apply}
use Rattle.and_model.specs.Solutions.{Equation, Solves, Solvable, MostGeneral}
use Rattle.and_laws.proofs.Substitutions.{Through, apply_through, then, apply_then}

pub solves_join : (s : Substitution) (es ds : List Equation) → Solves s es → Solves s ds → Solves s (es ++ ds)
solves_join s [] ds p q = q
solves_join s (e ∷ es) ds p q = (p.0, solves_join s es ds p.1 q)

pub solves_front : (s : Substitution) (es ds : List Equation) → Solves s (es ++ ds) → Solves s es
solves_front s [] ds p = tt
solves_front s (e ∷ es) ds p = (p.0, solves_front s es ds p.1)

pub solves_back : (s : Substitution) (es ds : List Equation) → Solves s (es ++ ds) → Solves s ds
solves_back s [] ds p = p
solves_back s (e ∷ es) ds p = solves_back s es ds p.1

-- what goes on after a solution is a solution
pub solves_then : (s t : Substitution) (es : List Equation) → Solves s es → Solves (then s t) es
solves_then s t [] p = tt
solves_then s t (e ∷ es) p = (sym (apply_then s t e.0) ∙ ap (apply t) p.0 ∙ apply_then s t e.1, solves_then s t es p.1)

-- What an engine asks: one more equation has a solution with the list exactly where its two sides, under a most general solution of the list, have one.
pub solvable_under : (s : Substitution) (es : List Equation) (a b : Term) → MostGeneral s es → Solvable ((a, b) ∷ es) → Solvable ((apply s a, apply s b) ∷ [])
solvable_under s es a b m so =
    let (t, p) = so in
    let through : Through s t = m.1 t p.1 in
    (t, (sym (apply_through s t through a) ∙ p.0 ∙ apply_through s t through b, tt))

pub under_solvable : (s : Substitution) (es : List Equation) (a b : Term) → MostGeneral s es → Solvable ((apply s a, apply s b) ∷ []) → Solvable ((a, b) ∷ es)
under_solvable s es a b m so =
    let (t, p) = so in
    (then s t, (sym (apply_then s t a) ∙ p.0 ∙ apply_then s t b, solves_then s t es m.0))

-- and a most general solution of these, after that of the list, is one of the longer list
pub general_then : (s r : Substitution) (es : List Equation) (a b : Term) → MostGeneral s es → MostGeneral r ((apply s a, apply s b) ∷ [])
    → MostGeneral (then s r) ((a, b) ∷ es)
general_then s r es a b m n = (
  (sym (apply_then s r a) ∙ n.0.0 ∙ apply_then s r b, solves_then s r es m.0),
  λ t p q k.
      let through : Through s t = m.1 t p.1 in
      let solves : Solves t ((apply s a, apply s b) ∷ []) = (sym (apply_through s t through a) ∙ p.0 ∙ apply_through s t through b, tt) in
      through q k ∙ apply_through r t (n.1 t solves) (s q k),
)
