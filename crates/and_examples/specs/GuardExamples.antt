-- Comparisons in front of clauses, tried on three small programs.
use Rattle.std.proofs.Common.{inl}
use Rattle.std.specs.Prelude.{ℕ, ◌++◌, List, [], ◌∷◌, refl, length, codes}
use Rattle.and_model.specs.Terms.{Term, variable, compound, none, more}
use Rattle.and_model.specs.Solutions.{Equation}
use Rattle.and_model.specs.Arithmetic.{less, greater, at_least, differs}
use Rattle.and_model.specs.Programs.{Program, Clause, Item, Arithmetic, call, equal, arithmetic, is, compare, own_name}
use Rattle.and_model.specs.Programs.{builtin_names, head_in}
use Rattle.and_model.specs.Trees.{QueryTree, query_agenda, blank, reduce}
use Rattle.and_examples.specs.Texts.{own, whole, p, asks}

-- a clause with this head and body, whose variables have these names
abbrev pub rule : Term → List Item → List (List ℕ) → Clause
rule head body written = record { head = head; body = body; variables = length written; written = written; line = 1 }

-- the variable of that number of the clause that takes the query's call
abbrev pub inner : ℕ → Term
inner k = variable (0 ∷ []) k

-- ---- max(X,Y,X) :- X >= Y. max(X,Y,Y) :- X < Y. ?- max(3,5,M).
abbrev pub greatest : Term → Term → Term → Term
greatest a b c = compound (own_name 0) (more a (more b (more c none)))

abbrev pub greatest_text : Program
greatest_text = record {
  clauses = rule (greatest (own 0) (own 1) (own 0)) (arithmetic (compare at_least (own 0) (own 1)) ∷ [])
      (codes "X" ∷ codes "Y" ∷ [])
      ∷ rule (greatest (own 0) (own 1) (own 1)) (arithmetic (compare less (own 0) (own 1)) ∷ [])
      (codes "X" ∷ codes "Y" ∷ [])
      ∷ [];
  query = asks (call (greatest (whole 3) (whole 5) (own 0)) ∷ []) (codes "M" ∷ []);
  names = builtin_names ++ codes "max" ∷ [];
}

abbrev pub greatest_start : QueryTree greatest_text
greatest_start = blank (query_agenda greatest_text)

abbrev pub greatest_answer : QueryTree greatest_text
greatest_answer = reduce greatest_start (inl tt) 2 refl

-- the query's call with the head of that clause
abbrev pub taken : ℕ → List Equation
taken c = (greatest (whole 3) (whole 5) (own 0), head_in greatest_text (0 ∷ []) c) ∷ []

abbrev pub at_least_second : Arithmetic
at_least_second = compare at_least (inner 0) (inner 1)

-- ---- p(X) :- Y is X, X < 3. p(X) :- X < 3, Y is X. ?- p(5).
abbrev pub below_3 : Arithmetic
below_3 = compare less (own 0) (whole 3)

abbrev pub ending_text : Program
ending_text = record {
  clauses = rule (p (own 0)) (arithmetic (is (own 1) (own 0)) ∷ arithmetic below_3 ∷ []) (codes "X" ∷ codes "Y" ∷ [])
      ∷ rule (p (own 0)) (arithmetic below_3 ∷ arithmetic (is (own 1) (own 0)) ∷ []) (codes "X" ∷ codes "Y" ∷ [])
      ∷ [];
  query = asks (call (p (whole 5)) ∷ []) [];
  names = builtin_names ++ codes "p" ∷ [];
}

abbrev pub ending_start : QueryTree ending_text
ending_start = blank (query_agenda ending_text)

-- p(X) :- Y is X, Z is Y, X < 3, p(Z), Z = 3.
abbrev pub all_kinds : Clause
all_kinds =
    rule (p (own 0))
    (arithmetic (is (own 1) (own 0)) ∷ arithmetic (is (own 2) (own 1)) ∷ arithmetic below_3
    ∷ call (p (own 2)) ∷ equal (own 2) (whole 3) ∷ [])
    (codes "X" ∷ codes "Y" ∷ codes "Z" ∷ [])

-- ---- p(X) :- X > a. p(X) :- X =\= a. ?- p(5).
abbrev pub atom : Term
atom = compound (own_name 1) none

abbrev pub above_atom : Arithmetic
above_atom = compare greater (own 0) atom

abbrev pub other_than_atom : Arithmetic
other_than_atom = compare differs (own 0) atom

abbrev pub atom_text : Program
atom_text = record {
  clauses = rule (p (own 0)) (arithmetic above_atom ∷ []) (codes "X" ∷ [])
      ∷ rule (p (own 0)) (arithmetic other_than_atom ∷ []) (codes "X" ∷ [])
      ∷ [];
  query = asks (call (p (whole 5)) ∷ []) [];
  names = builtin_names ++ codes "p" ∷ codes "a" ∷ [];
}

abbrev pub atom_start : QueryTree atom_text
atom_start = blank (query_agenda atom_text)
