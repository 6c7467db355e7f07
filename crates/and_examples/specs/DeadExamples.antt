-- Trees that are Dead, and candidates over the limit, tried on small programs.
use Rattle.std.specs.Prelude.{◌++◌, [], ◌∷◌, codes}
use Rattle.and_model.specs.Programs.{Program, call, builtin_names}
use Rattle.and_model.specs.Trees.{QueryTree, query_agenda, blank}
use Rattle.and_examples.specs.Texts.{own, whole, p, q, fact, asks, circle, not_below}

-- ---- p(1). q(2). ?- p(X), q(3). The query weighs 2.
abbrev pub hopeless : Program
hopeless = record {
  clauses = fact (p (whole 1)) ∷ fact (q (whole 2)) ∷ [];
  query = asks (call (p (own 0)) ∷ call (q (whole 3)) ∷ []) (codes "X" ∷ []);
  names = builtin_names ++ codes "p" ∷ codes "q" ∷ [];
}

abbrev pub hopeless_start : QueryTree hopeless
hopeless_start = blank (query_agenda hopeless)

-- the whole trees of ?- X = f(X). and of ?- X = 3, X < 3.
abbrev pub circle_start : QueryTree circle
circle_start = blank (query_agenda circle)

abbrev pub not_below_start : QueryTree not_below
not_below_start = blank (query_agenda not_below)
