-- Trials of the definitions on small programs. Expected values are worked out by hand.
use Rattle.std.proofs.Common.{inl, inr}
use Rattle.std.specs.Prelude.{ℕ, ◌++◌, List, [], ◌∷◌, refl, pos, codes, length}
use Rattle.and_model.specs.Terms.{Term, variable, number, compound, none, more}
use Rattle.and_model.specs.Programs.{Program, Clause, Item, call, builtin_names, own_name}
use Rattle.and_model.specs.Trees.{QueryTree, query_agenda, blank, reduce}
use Rattle.and_model.specs.Reductions.{Reduction}
use Rattle.and_model.specs.declared.builtins.TheConstants.{TRUE}

-- Two names follow the ones that every program has, and X, Y are the query's variables.
abbrev pub p : Term → Term
p t = compound (own_name 0) (more t none)

abbrev pub q : Term → Term
q t = compound (own_name 1) (more t none)

abbrev pub x : Term
x = variable [] 0

abbrev pub y : Term
y = variable [] 1

abbrev pub one : Term
one = number (pos 1)

abbrev pub two : Term
two = number (pos 2)

abbrev pub fact : Term → Clause
fact t = record { head = t; body = []; variables = 0; written = []; line = 1 }

abbrev pub asks : List Item → List (List ℕ) → Clause
asks items names = record {
  head = compound TRUE none;
  body = items;
  variables = length names;
  written = names;
  line = 1;
}

-- ---- early-filter: p(1). p(2). q(2). ?- p(X), q(X).
abbrev pub early : Program
early = record {
  clauses = fact (p one) ∷ fact (p two) ∷ fact (q two) ∷ [];
  query = asks (call (p x) ∷ call (q x) ∷ []) (codes "X" ∷ []);
  names = builtin_names ++ codes "p" ∷ codes "q" ∷ [];
}

abbrev pub early_start : QueryTree early
early_start = blank (query_agenda early)

abbrev pub early_filtered : QueryTree early
early_filtered = reduce early_start (inr (inl tt)) 3 refl

abbrev pub early_answer : QueryTree early
early_answer = reduce early_filtered (inl tt) 2 refl

-- The two reductions of the proof, in either order, make its tree. The places are 0, 2 and 3: the query weighs 2, and
-- clause 3 weighs 1.
abbrev pub by_three : Reduction
by_three = record { parent = 0; item = 1; clause = 3; node = 2 }

abbrev pub by_two : Reduction
by_two = record { parent = 0; item = 0; clause = 2; node = 3 }

-- ---- two-forks: p(1). p(2). q(3). q(4). ?- p(X), q(Y).
abbrev pub forks : Program
forks = record {
  clauses = fact (p one) ∷ fact (p two) ∷ fact (q (number (pos 3))) ∷ fact (q (number (pos 4))) ∷ [];
  query = asks (call (p x) ∷ call (q y) ∷ []) (codes "X" ∷ codes "Y" ∷ []);
  names = builtin_names ++ codes "p" ∷ codes "q" ∷ [];
}

abbrev pub forks_start : QueryTree forks
forks_start = blank (query_agenda forks)
