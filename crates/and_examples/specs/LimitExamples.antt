-- A trial of the limit. Expected values are worked out by hand.
use Rattle.std.proofs.Common.{inl}
use Rattle.std.specs.Prelude.{◌++◌, [], ◌∷◌, refl, codes}
use Rattle.and_model.specs.Terms.{Term, compound, none, more}
use Rattle.and_model.specs.Programs.{Program, call, builtin_names, own_name}
use Rattle.and_model.specs.Trees.{QueryTree, query_agenda, blank, reduce}
use Rattle.and_examples.specs.ReachedExamples.{x, fact, asks}

-- ---- nat-cut: nat(z). nat(s(N)) :- nat(N). ?- nat(X). With the limit 6, the tree of s(s(X)) weighs 6, and a clause
-- more is too much.
abbrev pub nat : Term → Term
nat t = compound (own_name 0) (more t none)

abbrev pub z : Term
z = compound (own_name 1) none

abbrev pub s : Term → Term
s t = compound (own_name 2) (more t none)

abbrev pub naturals : Program
naturals = record {
  clauses = fact (nat z) ∷ record {
    head = nat (s x);
    body = call (nat x) ∷ [];
    variables = 1;
    written = codes "N" ∷ [];
    line = 1;
  } ∷ [];
  query = asks (call (nat x) ∷ []) (codes "X" ∷ []);
  names = builtin_names ++ codes "nat" ∷ codes "z" ∷ codes "s" ∷ [];
}

abbrev pub at_least_0 : QueryTree naturals
at_least_0 = blank (query_agenda naturals)

abbrev pub at_least_1 : QueryTree naturals
at_least_1 = reduce at_least_0 (inl tt) 2 refl

abbrev pub at_least_2 : QueryTree naturals
at_least_2 = reduce at_least_1 (inl tt) 2 refl
