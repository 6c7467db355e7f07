-- Programs whose bodies may hold disjunctions, and what their clauses and alternatives weigh (Lloyd, section 18; the
-- numbers and the weights are this project's own).
use Rattle.std.specs.Prelude.{ℕ, zero, suc, ◌+◌, ◌≡◌, ◌≢◌, Bool, false, List, [], ◌∷◌, ◌++◌, length, nat_eq, AllPairs}
use Rattle.std.specs.Prelude.{All, Contains}
use Rattle.and_model.specs.Terms.{Path, Term, variable, number, compound, variables_of}
use Rattle.and_model.specs.Programs.{Item, call, equal, arithmetic, fail, is_goals}
use Rattle.and_model.specs.Stands.{item_term}
use Rattle.and_model.specs.Lines.{first_seen}
use Rattle.and_model.specs.OwnVariables.{IsOwn, AreOwn}

mutual
  -- The items of a body or of an alternative. An item is one of a clause without disjunctions, or an `Either`, which
  -- asks for one of its alternatives. It has the name of the predicate by which it is lifted.
  pub data SourceItems : Type 0 where
    no_items : SourceItems
    plain : Item → SourceItems → SourceItems
    either : (name : ℕ) → Alternatives → SourceItems → SourceItems

  -- Alternatives in textual order, each with its clause number. They share the variables of the clause in which they
  -- stand.
  pub data Alternatives : Type 0 where
    no_alternatives : Alternatives
    alternative : (clause : ℕ) → SourceItems → Alternatives → Alternatives

-- A clause with its number; all else is as in a clause without disjunctions.
pub record SourceClause : Type 0 where
  pub number : ℕ
  pub head : Term
  pub body : SourceItems
  pub variables : ℕ
  pub written : List (List ℕ)
  pub line : ℕ

-- A program: the clauses that stand before its one query and those that stand after it, in textual order, and its
-- names by their numbers.
pub record SourceProgram : Type 0 where
  pub earlier : List SourceClause
  pub query : SourceClause
  pub later : List SourceClause
  pub names : List (List ℕ)

-- the clauses in textual order
abbrev pub source_clauses : SourceProgram → List SourceClause
source_clauses P = P.earlier ++ P.later

abbrev mutual
  -- the occurrences of variables, from left to right
  pub variables_of_items : SourceItems → List (Path × ℕ)
  variables_of_items no_items = []
  variables_of_items (plain i items) = variables_of (item_term i) ++ variables_of_items items
  variables_of_items (either name alts items) = variables_of_alternatives alts ++ variables_of_items items

  pub variables_of_alternatives : Alternatives → List (Path × ℕ)
  variables_of_alternatives no_alternatives = []
  variables_of_alternatives (alternative c items alts) = variables_of_items items ++ variables_of_alternatives alts

-- the distinct variables of a disjunction, by first occurrence
abbrev pub distinct_variables : Alternatives → List (Path × ℕ)
distinct_variables alts = first_seen [] (variables_of_alternatives alts)

-- the `is` goals that stand directly among the items, and in no disjunction
abbrev pub direct_is_goals : SourceItems → ℕ
direct_is_goals no_items = 0
direct_is_goals (plain i items) = is_goals (i ∷ []) + direct_is_goals items
direct_is_goals (either name alts items) = direct_is_goals items

-- 1, its variables, and 2 for each `is` goal that stands directly in its body
unfoldable pub source_weight : SourceClause → ℕ
source_weight k = 1 + k.variables + (direct_is_goals k.body + direct_is_goals k.body)

-- 1, the distinct variables of its whole disjunction, and 2 for each `is` goal that stands directly in it
unfoldable pub alternative_weight : Alternatives → SourceItems → ℕ
alternative_weight alts items = 1 + length (distinct_variables alts) + (direct_is_goals items + direct_is_goals items)

abbrev mutual
  -- The numbers of alternatives in preorder: an outer one before those inside it.
  pub numbers_in_items : SourceItems → List ℕ
  numbers_in_items no_items = []
  numbers_in_items (plain i items) = numbers_in_items items
  numbers_in_items (either name alts items) = numbers_in_alternatives alts ++ numbers_in_items items

  pub numbers_in_alternatives : Alternatives → List ℕ
  numbers_in_alternatives no_alternatives = []
  numbers_in_alternatives (alternative c items alts) = c ∷ numbers_in_items items ++ numbers_in_alternatives alts

-- the number of each clause, and then those of its alternatives
abbrev pub numbers_in_clauses : List SourceClause → List ℕ
numbers_in_clauses [] = []
numbers_in_clauses (k ∷ ks) = k.number ∷ numbers_in_items k.body ++ numbers_in_clauses ks

-- all numbers of clauses and alternatives in textual order; those of the query's alternatives stand where the query
-- does
abbrev pub numbers_in : SourceProgram → List ℕ
numbers_in P = numbers_in_clauses P.earlier ++ numbers_in_items P.query.body ++ numbers_in_clauses P.later

-- so many numbers from c on
abbrev pub numbers_from : (c count : ℕ) → List ℕ
numbers_from c zero = []
numbers_from c (suc n) = c ∷ numbers_from (suc c) n

abbrev mutual
  -- the disjunctions, each by its name and with its alternatives, an outer one before those inside it
  pub disjunctions_in_items : SourceItems → List (ℕ × Alternatives)
  disjunctions_in_items no_items = []
  disjunctions_in_items (plain i items) = disjunctions_in_items items
  disjunctions_in_items (either name alts items) =
      (name, alts) ∷ disjunctions_in_alternatives alts ++ disjunctions_in_items items

  pub disjunctions_in_alternatives : Alternatives → List (ℕ × Alternatives)
  disjunctions_in_alternatives no_alternatives = []
  disjunctions_in_alternatives (alternative c items alts) =
      disjunctions_in_items items ++ disjunctions_in_alternatives alts

abbrev mutual
  -- the calls, also those inside disjunctions
  pub calls_in_items : SourceItems → List Term
  calls_in_items no_items = []
  calls_in_items (plain (call g) items) = g ∷ calls_in_items items
  calls_in_items (plain (equal a b) items) = calls_in_items items
  calls_in_items (plain (arithmetic a) items) = calls_in_items items
  calls_in_items (plain fail items) = calls_in_items items
  calls_in_items (either name alts items) = calls_in_alternatives alts ++ calls_in_items items

  pub calls_in_alternatives : Alternatives → List Term
  calls_in_alternatives no_alternatives = []
  calls_in_alternatives (alternative c items alts) = calls_in_items items ++ calls_in_alternatives alts

abbrev pub disjunctions_in_clauses : List SourceClause → List (ℕ × Alternatives)
disjunctions_in_clauses [] = []
disjunctions_in_clauses (k ∷ ks) = disjunctions_in_items k.body ++ disjunctions_in_clauses ks

-- all disjunctions of the program
abbrev pub disjunctions_in : SourceProgram → List (ℕ × Alternatives)
disjunctions_in P =
    disjunctions_in_clauses P.earlier ++ disjunctions_in_items P.query.body ++ disjunctions_in_clauses P.later

-- the heads of clauses and the calls of their bodies
abbrev pub heads_and_calls_in : List SourceClause → List Term
heads_and_calls_in [] = []
heads_and_calls_in (k ∷ ks) = k.head ∷ calls_in_items k.body ++ heads_and_calls_in ks

-- all of the program's
abbrev pub heads_and_calls : SourceProgram → List Term
heads_and_calls P = heads_and_calls_in P.earlier ++ calls_in_items P.query.body ++ heads_and_calls_in P.later

abbrev pub has_name : ℕ → Term → Bool
has_name n (variable q k) = false
has_name n (number z) = false
has_name n (compound c ts) = nat_eq n c

-- The program is numbered and named as a table of clauses does it.
pub record IsNumbered (P : SourceProgram) : Type 0 where
  -- The numbers are 1, 2, 3 and so on, in textual order.
  pub numbers : numbers_in P ≡ numbers_from 1 (length (numbers_in P))
  -- Each disjunction has a name of its own,
  pub own_names : AllPairs (λ (d e : ℕ × Alternatives). d.0 ≢ e.0) (disjunctions_in P)
  -- which no clause and no call has.
  pub unwritten : (d : ℕ × Alternatives) (t : Term) → Contains (disjunctions_in P) d → Contains (heads_and_calls P) t
      → has_name d.0 t ≡ false

-- the terms of the clause, those inside disjunctions too, have no variables but its own
abbrev pub HasOwnSourceVariables : SourceClause → Type 0
HasOwnSourceVariables k = AreOwn k.variables k.head × All (IsOwn k.variables) (variables_of_items k.body)
