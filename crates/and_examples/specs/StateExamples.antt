-- The state of a branch's tree, tried on small programs.
use Rattle.std.specs.Prelude.{◌++◌, [], ◌∷◌, codes}
use Rattle.and_model.specs.Programs.{Program, call, builtin_names}
use Rattle.and_model.specs.Trees.{QueryTree, query_agenda, blank}
use Rattle.and_examples.specs.GuardExamples.{rule}
use Rattle.and_examples.specs.Texts.{own, whole, p, q, fact, asks, floundered_text, late_text}

-- ---- p(X) :- q(X). q(1). ?- p(X), q(Y). The query weighs 3, clause 1 weighs 2 and clause 2 weighs 1.
abbrev pub heavy_first : Program
heavy_first = record {
  clauses = rule (p (own 0)) (call (q (own 0)) ∷ []) (codes "X" ∷ []) ∷ fact (q (whole 1)) ∷ [];
  query = asks (call (p (own 0)) ∷ call (q (own 1)) ∷ []) (codes "X" ∷ codes "Y" ∷ []);
  names = builtin_names ++ codes "p" ∷ codes "q" ∷ [];
}

abbrev pub heavy_start : QueryTree heavy_first
heavy_start = blank (query_agenda heavy_first)

-- the whole trees of ?- X is X + 0. and of ?- X < 3, X = 2.
abbrev pub floundered_start : QueryTree floundered_text
floundered_start = blank (query_agenda floundered_text)

abbrev pub late_start : QueryTree late_text
late_start = blank (query_agenda late_text)
