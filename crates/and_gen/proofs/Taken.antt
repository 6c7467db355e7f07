-- The lines of the generated text, taken one after another by a table.
use Rattle.std.proofs.Common.{ℕ, ◌+◌, ◌*◌, ◌≡◌, ◌<◌, Bool, true, false, leb, ltb, ◌||◌, List, [], ◌∷◌, ◌++◌, map, length, refl, ap, ◌∙◌, arith}
use Rattle.std.proofs.Common.{pos, Option, Some, None, codes, length-append}
use Rattle.std.specs.List.{list_any}
use Rattle.std.proofs.lemmas.List.Folds.{list_any-append}
use Rattle.and_model.specs.Lines.{Bytes}
use Rattle.and_model.specs.Terms.{Term, compound, none, more, variable, number}
use Rattle.and_model.specs.Programs.{Clause, builtin_names, same_predicate, own_name}
use Rattle.and_source.specs.Source.{SourceClause, no_items, calls_in_items}
use Rattle.and_source.specs.Lifted.{clauses_of, clauses_of_items}
use Rattle.and_language.specs.Tokens.{line_at}
use Rattle.and_automaton.proofs.Texts.{statement}
use Rattle.and_syntax.specs.Tables.{Table, empty, clause_fault, query_fault, next_clause, next_query, first_unknown, unknown_in, unknown_of, unknown_or}
use Rattle.and_language.specs.Grammar.{Statement}
use Rattle.and_language.specs.Refusals.{Takes, statement_fault, with_statement}
use Rattle.and_language.specs.Refusals as refusals
use Rattle.and_model.specs.declared.limits.TheConstants.{MAX_CLAUSES, MAX_NODES}
use Rattle.and_gen.proofs.Pieces.{after}
use Rattle.and_gen.proofs.Lines.{Edge, Line, edge, ends, goes_on, asks, pieces, line_term, sort_in}
use Rattle.and_gen.proofs.Texts.{statements}

-- edges, what a path is, and the question
abbrev pub lines_of : List Edge → ℕ → List Line
lines_of es n = map edge es ++ ends ∷ goes_on ∷ asks n ∷ []

-- the names behind those that are built in, as they are first seen
abbrev names : List Bytes
names = builtin_names ++ codes "edge" ∷ codes "n" ∷ []

abbrev all_names : List Bytes
all_names = names ++ codes "path" ∷ []

abbrev table : List Bytes → List SourceClause → (nodes numbers : ℕ) → Table
table ns ks m c =
    record { earlier = ks; asked = None; later = []; names = ns; nodes = m; numbers = c; disjunctions = 0 }

-- the calls of the second clause about paths
abbrev edge_call : Term
edge_call = compound (own_name 0) (more (variable [] 0) (more (variable [] 3) none))

abbrev path_call : Term
path_call = compound (own_name 2) (more (variable [] 3) (more (variable [] 1) (more (variable [] 2) none)))

-- the clauses are facts
abbrev AreFacts : List SourceClause → Type 0
AreFacts [] = Unit {0}
AreFacts (k ∷ ks) = (k.body ≡ no_items) × AreFacts ks

-- a clause of the call's predicate is among them
abbrev has : Term → List SourceClause → Bool
has g ks = list_any (λ (k : SourceClause). same_predicate g k.head) ks

abbrev defines : Term → List Clause → Bool
defines g cs = list_any (λ (c : Clause). same_predicate g c.head) cs

facts-append : (xs ys : List SourceClause) → AreFacts xs → AreFacts ys → AreFacts (xs ++ ys)
facts-append [] ys f g = g
facts-append (x ∷ xs) ys f g = (f.0, facts-append xs ys f.1 g)

or_true : (b : Bool) → b || true ≡ true
or_true true = refl
or_true false = refl

has-append : (g : Term) (xs ys : List SourceClause) → has g xs ≡ true → has g (xs ++ ys) ≡ true
has-append g xs ys h = list_any-append (λ (k : SourceClause). same_predicate g k.head) xs ys ∙ ap (λ b. b || has g ys) h

has_last : (g : Term) (xs ys : List SourceClause) → has g ys ≡ true → has g (xs ++ ys) ≡ true
has_last g xs ys h =
    list_any-append (λ (k : SourceClause). same_predicate g k.head) xs ys ∙ ap (λ b. has g xs || b) h ∙ or_true (has g xs)

-- so it is among the clauses to which they are lifted
lifted_has : (g : Term) (ks : List SourceClause) → has g ks ≡ true → defines g (clauses_of ks) ≡ true
lifted_has g [] h = absurd (cc)
lifted_has g (k ∷ ks) h = by (same_predicate g k.head) h (λ e. lifted_has g ks e)
  where
    by : (b : Bool) → b || has g ks ≡ true → (has g ks ≡ true → defines g (clauses_of ks) ≡ true)
        → b || defines g (clauses_of_items k k.body ++ clauses_of ks) ≡ true
    by true e rest = refl
    by false e rest =
        list_any-append (λ (c : Clause). same_predicate g c.head) (clauses_of_items k k.body) (clauses_of ks)
        ∙ ap (λ b. defines g (clauses_of_items k k.body) || b) (rest e) ∙ or_true (defines g (clauses_of_items k k.body))

-- those of more clauses
defines_more : (g : Term) (xs ys : List Clause) → defines g xs ≡ true → defines g (xs ++ ys) ≡ true
defines_more g xs ys h = list_any-append (λ (c : Clause). same_predicate g c.head) xs ys ∙ ap (λ b. b || defines g ys) h

-- and of a whole program whose query has no disjunction, and behind which no clause stands
defined : (g : Term) (ks : List SourceClause) → has g ks ≡ true → defines g (clauses_of ks ++ [] ++ []) ≡ true
defined g ks h = defines_more g (clauses_of ks ++ []) [] (defines_more g (clauses_of ks) [] (lifted_has g ks h))

-- Where the calls of some clauses are known, and those of others, all are;
known_both : (ns : List Bytes) (cs : List Clause) (xs ys : List SourceClause) → unknown_in ns cs xs ≡ None → unknown_in ns cs ys ≡ None
    → unknown_in ns cs (xs ++ ys) ≡ None
known_both ns cs [] ys e f = f
known_both ns cs (k ∷ ks) ys e f = by (first_unknown cs (calls_in_items k.body)) e (λ h. known_both ns cs ks ys h f)
  where
    by : (o : Option Term) → unknown_or ns k.line o (unknown_in ns cs ks) ≡ None
        → (unknown_in ns cs ks ≡ None → unknown_in ns cs (ks ++ ys) ≡ None)
        → unknown_or ns k.line o (unknown_in ns cs (ks ++ ys)) ≡ None
    by None e on = on e
    by (Some g) e on = absurd (cc)

-- and facts call nothing.
facts_known : (ns : List Bytes) (cs : List Clause) (xs : List SourceClause) → AreFacts xs → unknown_in ns cs xs ≡ None
facts_known ns cs [] f = refl
facts_known ns cs (k ∷ ks) f = rw f.0 (facts_known ns cs ks f.1)

module _ (bytes : Bytes) where
  -- these lines are taken, and then there is a query and each call is known
  abbrev pub AreTaken : Table → List Statement → Type 0
  AreTaken T ss = (U : Table) × Takes bytes T ss U × ((q : SourceClause) × (U.asked ≡ Some q) × (unknown_of U q ≡ None))

  one_more : (T : Table) (s : Statement) (ss : List Statement) → statement_fault T s ≡ None → AreTaken (with_statement bytes T s) ss
      → AreTaken T (s ∷ ss)
  one_more T s ss accepted r = (r.0, refusals.more T r.0 s ss accepted r.1, r.2)

  edge_taken : (ks : List SourceClause) (m c : ℕ) (e : Edge) → ltb MAX_NODES (m + 7) ≡ false → ltb MAX_CLAUSES (c + 1) ≡ false
      → clause_fault (table names ks m c) (line_term (edge e)) ≡ None
  edge_taken ks m c e few_nodes few = rw (few_nodes, few) refl

  ends_taken : (ks : List SourceClause) (m c : ℕ) → ltb MAX_NODES (m + 6) ≡ false → ltb MAX_CLAUSES (c + 1) ≡ false
      → clause_fault (table names ks m c) (line_term ends) ≡ None
  ends_taken ks m c few_nodes few = rw (few_nodes, few) refl

  goes_on_taken : (ks : List SourceClause) (m c : ℕ) → ltb MAX_NODES (m + 15) ≡ false → ltb MAX_CLAUSES (c + 1) ≡ false
      → clause_fault (table all_names ks m c) (line_term goes_on) ≡ None
  goes_on_taken ks m c few_nodes few = rw (few_nodes, few) refl

  asks_taken : (ks : List SourceClause) (m c n : ℕ) → ltb MAX_NODES (m + 9) ≡ false → ltb MAX_CLAUSES (c + 0) ≡ false
      → query_fault (table all_names ks m c) (line_term (asks n)) ≡ None
  asks_taken ks m c n few_nodes few = rw (few_nodes, few) refl

  first_taken : (e : Edge) → clause_fault empty (line_term (edge e)) ≡ None
  first_taken e = refl

  -- a clause or query at some place
  abbrev at : Line → ℕ → Statement
  at l p = statement (sort_in l) (line_term l) p

  abbrev clause_in : Table → Line → ℕ → SourceClause
  clause_in T l p = next_clause T (line_term l) (line_at bytes p)

  -- the last lines: what a path is, and the question
  module _ (ks : List SourceClause) (m c n p q r : ℕ) (few : c < 1000) (few_nodes : m < 100000) (facts : AreFacts ks)
      (edges : has edge_call ks ≡ true) where
    abbrev first : SourceClause
    first = clause_in (table names ks m c) ends p

    abbrev front : List SourceClause
    front = ks ++ first ∷ []

    abbrev second : SourceClause
    second = clause_in (table all_names front (m + 6) (c + 1)) goes_on q

    abbrev both : List SourceClause
    both = front ++ second ∷ []

    abbrev place_at : ℕ → ℕ → Term
    place_at rail k = compound (own_name 1) (more (number (pos rail)) (more (number (pos k)) none))

    abbrev asked_call : Term
    asked_call = compound (own_name 2) (more (place_at 0 0) (more (place_at 2 n) (more (variable [] 0) none)))

    abbrev asked : SourceClause
    asked = next_query (table all_names both (m + 6 + 15) (c + 1 + 1)) (line_term (asks n)) (line_at bytes r)

    known : unknown_in all_names (clauses_of both ++ [] ++ []) (both ++ asked ∷ []) ≡ None
    known =
        let all : List Clause = clauses_of both ++ [] ++ [] in
        let edge_known : defines edge_call all ≡ true =
        defined edge_call both (has-append edge_call front (second ∷ []) (has-append edge_call ks (first ∷ []) edges)) in
        let path_known : defines path_call all ≡ true = defined path_call both (has_last path_call front (second ∷ []) refl) in
        let asked_known : defines asked_call all ≡ true = defined asked_call both (has_last asked_call front (second ∷ []) refl) in
        let second_known : unknown_in all_names all (second ∷ []) ≡ None = rw (edge_known, path_known) refl in
        let third_known : unknown_in all_names all (asked ∷ []) ≡ None = rw asked_known refl in
        let front_known : unknown_in all_names all front ≡ None = facts_known all_names all front (facts-append ks (first ∷ []) facts (refl, tt)) in
        let clauses_known : unknown_in all_names all both ≡ None = known_both all_names all front (second ∷ []) front_known second_known in
        known_both all_names all both (asked ∷ []) clauses_known third_known

    last_taken : AreTaken (table names ks m c) (at ends p ∷ at goes_on q ∷ at (asks n) r ∷ [])
    last_taken =
        one_more (table names ks m c) (at ends p) (at goes_on q ∷ at (asks n) r ∷ []) (ends_taken ks m c (grind arith) (grind arith))
        (one_more (table all_names front (m + 6) (c + 1)) (at goes_on q) (at (asks n) r ∷ [])
        (goes_on_taken front (m + 6) (c + 1) (grind arith) (grind arith))
        (one_more (table all_names both (m + 6 + 15) (c + 1 + 1)) (at (asks n) r) []
        (asks_taken both (m + 6 + 15) (c + 1 + 1) n (grind arith) (grind arith))
        (_, refusals.nothing _, (asked, refl, known))))

  edges_taken : (es : List Edge) (n : ℕ) (ks : List SourceClause) (m c : ℕ) → c + length es < 1000 → m + 7 * length es < 100000
      → AreFacts ks → has edge_call ks ≡ true
      → (p : ℕ) (g : Bytes) → AreTaken (table names ks m c) (statements p g (lines_of es n))
  edges_taken [] n ks m c few few_nodes facts edges p g = last_taken ks m c n _ _ _ (omega arith) (omega arith) facts edges
  edges_taken (e ∷ es) n ks m c few few_nodes facts edges p g =
      let k = clause_in (table names ks m c) (edge e) (p + length g) in
      let next = after p (pieces g (edge e)) in
      one_more (table names ks m c) (at (edge e) (p + length g)) (statements next (10 ∷ []) (lines_of es n))
      (edge_taken ks m c e (grind arith) (grind arith))
      (edges_taken es n (ks ++ k ∷ []) (m + 7) (c + 1) (omega arith) (omega arith) (facts-append ks (k ∷ []) facts (refl, tt))
      (has-append edge_call ks (k ∷ []) edges) next (10 ∷ []))

  pub all_taken : (e : Edge) (es : List Edge) (n : ℕ) → length es < 900 → AreTaken empty (statements 0 [] (lines_of (e ∷ es) n))
  all_taken e es n few =
      let next = after 0 (pieces [] (edge e)) in
      one_more empty (at (edge e) 0) (statements next (10 ∷ []) (lines_of es n)) (first_taken e)
      (edges_taken es n (clause_in empty (edge e) 0 ∷ []) 7 1 (omega arith) (omega arith) (refl, tt) refl next (10 ∷ []))
