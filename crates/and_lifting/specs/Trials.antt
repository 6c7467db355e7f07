-- Small texts with disjunctions, as the programs that they are.
use Rattle.std.specs.Prelude.{ℕ, pos, ◌≡◌, List, [], ◌∷◌, ◌++◌, length, codes, Some}
use Rattle.and_model.specs.Terms.{Term, variable, number, compound, none, more}
use Rattle.and_model.specs.Arithmetic.{less, at_least}
use Rattle.and_model.specs.Programs.{Item, call, equal, arithmetic, compare, Clause, builtin_names, own_name}
use Rattle.and_model.specs.Listing.{Outcome, Entry}
use Rattle.and_model.specs.declared.builtins.TheConstants.{TRUE}
use Rattle.and_source.specs.Source.{SourceItems, no_items, plain, either, Alternatives, no_alternatives, alternative}
use Rattle.and_source.specs.Source.{SourceClause, SourceProgram}
use Rattle.and_source.specs.Unfolding.{Unfolding, source_unfold}
use Rattle.and_source.specs.SourceListing.{SourceEnds}

-- the variable of a clause, or of the query, that has this number
abbrev pub own : ℕ → Term
own k = variable [] k

abbrev pub whole : ℕ → Term
whole n = number (pos n)

abbrev pub atom : ℕ → Term
atom name = compound name none

-- a query with these items, whose variables have these names
abbrev pub asks : SourceItems → List (List ℕ) → SourceClause
asks items names =
    record { number = 0; head = compound TRUE none; body = items; variables = length names; written = names; line = 1 }

abbrev pub fact : ℕ → Term → SourceClause
fact c t = record { number = c; head = t; body = no_items; variables = 0; written = []; line = 1 }

-- the name of disjunction number d, written in decimal by these bytes
abbrev pub lifted_name : List ℕ → List ℕ
lifted_name d = 255 ∷ d

abbrev pub entry : List ℕ → Outcome → Entry
entry cs o = record { code = cs; outcome = o }

-- the code unfolds to what ends with this outcome
abbrev pub SourceCodeEnds : SourceProgram → List ℕ → Outcome → Type 0
SourceCodeEnds P cs o = (u : Unfolding) × (source_unfold P cs ≡ Some u) × SourceEnds P u o

-- an alternative of the one item `a = b`
abbrev pub equates : ℕ → Term → Term → Alternatives → Alternatives
equates c a b others = alternative c (plain (equal a b) no_items) others

-- ---- either-answers: ?- X = 1 ; X = 2.
abbrev pub answers_text : SourceProgram
answers_text = record {
  earlier = [];
  query = asks
      (either (own_name 0) (equates 1 (own 0) (whole 1) (equates 2 (own 0) (whole 2) no_alternatives)) no_items)
      (codes "X" ∷ []);
  later = [];
  names = builtin_names ++ lifted_name (codes "0") ∷ [];
}

-- ---- either-guards: m(X,Y,M) :- ( X >= Y, M = X ; X < Y, M = Y ). ?- m(3,5,M).
abbrev pub largest : Term → Term → Term → Term
largest a b c = compound (own_name 0) (more a (more b (more c none)))

abbrev pub guards_text : SourceProgram
guards_text = record {
  earlier = record {
    number = 1;
    head = largest (own 0) (own 1) (own 2);
    body = either (own_name 1)
        (alternative 2 (plain (arithmetic (compare at_least (own 0) (own 1))) (plain (equal (own 2) (own 0)) no_items))
        (alternative 3 (plain (arithmetic (compare less (own 0) (own 1)))
        (plain (equal (own 2) (own 1)) no_items)) no_alternatives)) no_items;
    variables = 3;
    written = codes "X" ∷ codes "Y" ∷ codes "M" ∷ [];
    line = 1;
  } ∷ [];
  query = asks (plain (call (largest (whole 3) (whole 5) (own 0))) no_items) (codes "M" ∷ []);
  later = [];
  names = builtin_names ++ codes "m" ∷ lifted_name (codes "0") ∷ [];
}

-- ---- either-forks: ?- (X = 1 ; X = 2), (Y = 3 ; Y = X).
abbrev pub forks_text : SourceProgram
forks_text = record {
  earlier = [];
  query = asks
      (either (own_name 0) (equates 1 (own 0) (whole 1) (equates 2 (own 0) (whole 2) no_alternatives))
      (either (own_name 1) (equates 3 (own 1) (whole 3) (equates 4 (own 1) (own 0) no_alternatives)) no_items))
      (codes "X" ∷ codes "Y" ∷ []);
  later = [];
  names = builtin_names ++ lifted_name (codes "0") ∷ lifted_name (codes "1") ∷ [];
}

-- ---- nested: p(X) :- ((q(X) ; r) ; X = Y). ?- (p(Z) ; true). q(1).
-- The names are p, q, r, those of the two disjunctions of the clause, and that of the query's.
abbrev pub nested_text : SourceProgram
nested_text = record {
  earlier = record {
    number = 1;
    head = compound (own_name 0) (more (own 0) none);
    body = either (own_name 3)
        (alternative 2
        (either (own_name 4)
        (alternative 3 (plain (call (compound (own_name 1) (more (own 0) none))) no_items)
        (alternative 4 (plain (call (atom (own_name 2))) no_items) no_alternatives)) no_items)
        (alternative 5 (plain (equal (own 0) (own 1)) no_items) no_alternatives)) no_items;
    variables = 2;
    written = codes "X" ∷ codes "Y" ∷ [];
    line = 1;
  } ∷ [];
  query = asks (either (own_name 5)
      (alternative 6 (plain (call (compound (own_name 0) (more (own 0) none))) no_items)
      (alternative 7 no_items no_alternatives)) no_items) (codes "Z" ∷ []);
  later = fact 8 (compound (own_name 1) (more (whole 1) none)) ∷ [];
  names = builtin_names ++ codes "p" ∷ codes "q" ∷ codes "r"
      ∷ lifted_name (codes "0") ∷ lifted_name (codes "1") ∷ lifted_name (codes "2") ∷ [];
}

-- a clause of the lifted program on line 1
abbrev pub lifted_rule : Term → List Item → List (List ℕ) → Clause
lifted_rule head items names =
    record { head = head; body = items; variables = length names; written = names; line = 1 }
