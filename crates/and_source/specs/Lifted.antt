-- The program without disjunctions that stands for one with them: each disjunction becomes a predicate of its own,
-- with a clause for each alternative (Lloyd, section 18, where bodies become clauses).
use Rattle.std.specs.Prelude.{ℕ, suc, List, [], ◌∷◌, ◌++◌, length, get_or, map}
use Rattle.and_model.specs.Terms.{Path, Term, Terms, variable, compound, none, more, apply}
use Rattle.and_model.specs.Programs.{Item, call, equal, arithmetic, fail, Arithmetic, is, compare, Clause, Program}
use Rattle.and_model.specs.Lines.{place_of}
use Rattle.and_source.specs.Source.{SourceItems, no_items, plain, either, Alternatives, no_alternatives, alternative}
use Rattle.and_source.specs.Source.{distinct_variables, SourceClause, SourceProgram}

-- new numbers for the variables of a clause
abbrev pub Numbering : Type 0
Numbering = Path → ℕ → ℕ

abbrev pub renumbered : Numbering → Term → Term
renumbered new t = apply (λ q k. variable [] (new q k)) t

abbrev pub renumbered_goal : Numbering → Arithmetic → Arithmetic
renumbered_goal new (is l r) = is (renumbered new l) (renumbered new r)
renumbered_goal new (compare m a b) = compare m (renumbered new a) (renumbered new b)

abbrev pub renumbered_item : Numbering → Item → Item
renumbered_item new (call g) = call (renumbered new g)
renumbered_item new (equal a b) = equal (renumbered new a) (renumbered new b)
renumbered_item new (arithmetic a) = arithmetic (renumbered_goal new a)
renumbered_item new fail = fail

-- variables as terms
abbrev pub as_terms : List (Path × ℕ) → Terms
as_terms [] = none
as_terms (v ∷ vs) = more (variable v.0 v.1) (as_terms vs)

-- The call that a disjunction becomes has its name, and its distinct variables by first occurrence.
abbrev pub lifted_call : ℕ → Alternatives → Term
lifted_call name alts = compound name (as_terms (distinct_variables alts))

-- the items of a clause in which the variables have new numbers: each `Either` is a call
abbrev pub lifted_items : Numbering → SourceItems → List Item
lifted_items new no_items = []
lifted_items new (plain i items) = renumbered_item new i ∷ lifted_items new items
lifted_items new (either name alts items) = call (renumbered new (lifted_call name alts)) ∷ lifted_items new items

-- a clause keeps its variables
abbrev pub lifted_clause : SourceClause → Clause
lifted_clause k = record {
  head = k.head;
  body = lifted_items (λ q n. n) k.body;
  variables = k.variables;
  written = k.written;
  line = k.line;
}

-- so many variables as these, numbered from k on
abbrev pub numbered_variables : ℕ → List (Path × ℕ) → Terms
numbered_variables k [] = none
numbered_variables k (v ∷ vs) = more (variable [] k) (numbered_variables (suc k) vs)

-- in the clauses of a disjunction its distinct variables are numbered by first occurrence
abbrev pub numbering_of : Alternatives → Numbering
numbering_of alts q k = place_of (q, k) (distinct_variables alts)

-- The clause that an alternative becomes: its head has the disjunction's name and distinct variables, its body the
-- alternative's items. It has the line of the clause in which it stands, and the variables have their names there.
abbrev pub lifted_alternative : SourceClause → ℕ → Alternatives → SourceItems → Clause
lifted_alternative k name alts items = record {
  head = compound name (numbered_variables 0 (distinct_variables alts));
  body = lifted_items (numbering_of alts) items;
  variables = length (distinct_variables alts);
  written = map (λ (v : Path × ℕ). get_or k.written v.1 []) (distinct_variables alts);
  line = k.line;
}

abbrev mutual
  -- the clauses for all alternatives among the items, an outer one before those inside it
  pub clauses_of_items : SourceClause → SourceItems → List Clause
  clauses_of_items k no_items = []
  clauses_of_items k (plain i items) = clauses_of_items k items
  clauses_of_items k (either name alts items) = clauses_of_alternatives k name alts alts ++ clauses_of_items k items

  -- and for the last alternatives of a disjunction
  pub clauses_of_alternatives : SourceClause → ℕ → Alternatives → Alternatives → List Clause
  clauses_of_alternatives k name alts no_alternatives = []
  clauses_of_alternatives k name alts (alternative c items others) =
      lifted_alternative k name alts items ∷ clauses_of_items k items ++ clauses_of_alternatives k name alts others

-- each clause, and then those for its alternatives
abbrev pub clauses_of : List SourceClause → List Clause
clauses_of [] = []
clauses_of (k ∷ ks) = lifted_clause k ∷ clauses_of_items k k.body ++ clauses_of ks

-- The lifted program: its clauses have the numbers of the clauses and alternatives, since they stand in the same
-- order.
abbrev pub lift : SourceProgram → Program
lift P = record {
  clauses = clauses_of P.earlier ++ clauses_of_items P.query P.query.body ++ clauses_of P.later;
  query = lifted_clause P.query;
  names = P.names;
}
