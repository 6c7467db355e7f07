-- The clause that a table makes of a rule's term is that of the rule.
use Rattle.std.proofs.Common.{ℕ, suc, ◌≡◌, ◌+◌, ◌<◌, ◌≤◌, ◌^◌, Bool, true, false, cond, nat_eq, List, [], ◌∷◌, map, codes}
use Rattle.std.proofs.Common.{Option, Some, None, refl, ap, sym, ◌∙◌, arith, subst}
use Rattle.std.proofs.lemmas.Bool.{ltb-false}
use Rattle.and_model.specs.Lines.{Bytes}
use Rattle.and_model.specs.Terms.{Term, Path, variable, compound, none, more}
use Rattle.and_model.specs.Programs.{Item, call, equal, builtin_names}
use Rattle.and_model.specs.declared.limits.TheConstants.{MAX_NODES}
use Rattle.and_model.specs.declared.builtins.TheConstants.{NECK}
use Rattle.and_source.specs.Source.{SourceClause}
use Rattle.and_source.specs.Lifted.{renumbered_item, lifted_items, lifted_clause, clauses_of_items}
use Rattle.and_syntax.specs.Written
use Rattle.and_syntax.specs.Written.{Written, Many, has, place, named, named_all, including, met_after, term_in, nodes_of}
use Rattle.and_syntax.specs.Clauses.{Parts, no_parts, item, Reading, reading_of, parts_of, numbered, head_of, body_of, asked_of, is_built_in, name_of}
use Rattle.and_syntax.specs.Clauses.{arity_of}
use Rattle.and_syntax.specs.Tables.{Table, Fault, all_names_with, disjunction_name, term_with, names_with, next_clause, next_query, clause_fault}
use Rattle.and_syntax.specs.Tables.{nodes_with}
use Rattle.and_syntax.proofs.Names.{Grows, grows-same, grows-trans, grows-named, grows-named_all, including-has}
use Rattle.and_translation.specs.Translation.{state, list_before, joined}
use Rattle.and_grammar_laws.specs.Derivations.{Symbol, letters, phrase, Rule}
use Rattle.and_grammar_laws.specs.Grammars.{atom, asks}
use Rattle.and_grammar_laws.proofs.Chains.{nil, first, others, states, behind, behind_states, list_to, between, items_of, IsClauseOf, apply_list}
use Rattle.and_grammar_laws.proofs.Settled.{under, settled}
use Rattle.and_grammar_laws.proofs.Walking.{goals_of, AreFree, free_others}
use Rattle.and_grammar_laws.proofs.Reading.{parts_list, list_under, goals_read, call_reading}
use Rattle.and_grammar_laws.proofs.Numbers.{clause_written, head_written, clause_named, states_met, clause_nodes, state_name, state_at, state_back, list_met}
use Rattle.and_grammar_laws.proofs.Numbers.{list_named}

-- the first fault of a list is none
first_none : (b : Bool) (x : Fault) (rest : Option Fault) → cond b (Some x) rest ≡ None → (b ≡ false) × (rest ≡ None)
first_none true x rest e = absurd (cc)
first_none false x rest e = (refl, e)

abbrev keep : Path → ℕ → ℕ
keep q n = n

-- items of rules stay as they are where numbers do
kept_items : (f : Bytes → ℕ) (m : ℕ → ℕ) (body : List Symbol) (s : ℕ) → map (renumbered_item keep) (items_of f m body s) ≡ items_of f m body s
kept_items f m [] s = refl
kept_items f m (letters [] ∷ body) s = kept_items f m body s
kept_items f m (letters (l ∷ ls) ∷ body) s =
    ap (λ (t : Term). equal (variable [] (m s)) t ∷ map (renumbered_item keep) (items_of f m body (suc s)))
    (apply_list f (λ q k. variable [] k) (l ∷ ls) (variable [] (m (suc s))))
    ∙ ap (λ (is : List Item). equal (variable [] (m s)) (list_to f (l ∷ ls) (variable [] (m (suc s)))) ∷ is) (kept_items f m body (suc s))
kept_items f m (phrase n ∷ body) s =
    ap (λ (is : List Item). call (between f n (variable [] (m s)) (variable [] (m (suc s)))) ∷ is) (kept_items f m body (suc s))

lifted_parts : (name : ℕ → ℕ) (c d : ℕ) (is : List Item) → lifted_items keep (numbered name c d (parts_list is)) ≡ map (renumbered_item keep) is
lifted_parts name c d [] = refl
lifted_parts name c d (i ∷ is) = ap (λ (js : List Item). renumbered_item keep i ∷ js) (lifted_parts name c d is)

no_clauses : (k : SourceClause) (name : ℕ → ℕ) (c d : ℕ) (is : List Item) → clauses_of_items k (numbered name c d (parts_list is)) ≡ []
no_clauses k name c d [] = refl
no_clauses k name c d (i ∷ is) = no_clauses k name c d is

-- the names of a term
head_there : (xs : List Bytes) (r : Rule) → has r.head (named xs (clause_written r)) ≡ true
head_there xs r =
    let ys : List Bytes = including xs (codes ":-") in
    let zs : List Bytes = including ys r.head in
    let args = Written.more (list_before (map atom (first r.body)) (state 0)) (Written.more (state (behind (others r.body) 0)) Written.none) in
    (grows-trans zs (named_all zs args) (named xs (clause_written r)) (grows-named_all zs args)
    (grows-named (named_all zs args) (joined (goals_of (others r.body) 0)))
    r.head (including-has ys r.head)).0

-- A table's clause of a rule that is not refused, under names that are kept.
pub record Stands (N : List Bytes) (k : SourceClause) (r : Rule) : Type 0 where
  pub clause : IsClauseOf (λ (x : Bytes). place x N) (lifted_clause k) r
  pub alone_is : clauses_of_items k k.body ≡ []
  pub called : is_built_in (place r.head N) 2 ≡ false
  pub known : has r.head N ≡ true

module _ (N : List Bytes) (builtins : Grows builtin_names N) (T : Table) (r : Rule) (line : ℕ) (grows : Grows (names_with T (clause_written r)) N)
    (fine : clause_fault T (clause_written r) ≡ None) (free : AreFree r.body) where
  abbrev M : List Bytes
  M = met_after [] (clause_written r)

  abbrev f : Bytes → ℕ
  f x = place x N

  abbrev m : ℕ → ℕ
  m j = place (state_name j) M

  abbrev t : Term
  t = term_with T (clause_written r)

  abbrev head_term : Term
  head_term = under N M (head_written r)

  abbrev body_term : Term
  body_term = under N M (joined (goals_of (others r.body) 0))

  term_is : t ≡ under N M (clause_written r)
  term_is =
      settled T.names (names_with T (clause_written r)) N [] M (clause_written r) (clause_named r) (grows-same (names_with T (clause_written r))) grows
      (grows-same M)

  head_is : head_of t ≡ head_term
  head_is = ap head_of term_is
      ∙ ap (λ (c : ℕ). cond (nat_eq c NECK) head_term (compound c (more head_term (more body_term none)))) (builtins (codes ":-") refl).1

  body_is : body_of t ≡ parts_list (items_of f m (others r.body) 0)
  body_is = ap body_of term_is ∙ ap (λ (c : ℕ). cond (nat_eq c NECK) (parts_of body_term) no_parts) (builtins (codes ":-") refl).1
      ∙ ap (λ (x : Reading). x.body) (goals_read N builtins M (others r.body) 0 (free_others r.body free))

  head_between : head_term ≡ between f r.head (list_to f (first r.body) (variable [] (m 0))) (variable [] (m (states (others r.body))))
  head_between =
      let z : behind (others r.body) 0 ≡ states (others r.body) = omega (arith, behind_states (others r.body) 0) in
      ap (λ (u : Term). between f r.head u (variable [] (m (behind (others r.body) 0)))) (list_under N builtins M (first r.body) (state 0))
      ∙ ap (λ (k : ℕ). between f r.head (list_to f (first r.body) (variable [] (m 0))) (variable [] (m k))) z

  -- what is wrong with it is nothing
  pub record Fine : Type 0 where
    pub called : is_built_in (name_of (head_of t)) (arity_of (head_of t)) ≡ false
    pub few : T.nodes + nodes_with T (clause_written r) (body_of t) ≤ MAX_NODES

  is_fine : Fine
  is_fine =
      let f1 = first_none _ _ _ fine in
      let f2 = first_none _ _ _ f1.1 in
      let f3 = first_none _ _ _ f2.1 in
      let f4 = first_none _ _ _ f3.1 in
      record { called = f2.0; few = ltb-false MAX_NODES (T.nodes + nodes_with T (clause_written r) (body_of t)) f4.0 }

  states_few : states (others r.body) < 2 ^ 64
  states_few = omega (arith, clause_nodes r, is_fine.few)

  pub stands : Stands N (next_clause T (clause_written r) line) r
  stands =
      let k : SourceClause = next_clause T (clause_written r) line in
      let name : ℕ → ℕ = λ d. place (disjunction_name d) (all_names_with T (clause_written r) (body_of t)) in
      let is : List Item = items_of f m (others r.body) 0 in
      record {
        clause = record {
          number = m;
          back = state_at M (states (others r.body));
          inverse = state_back M (states (others r.body)) states_few (states_met r);
          head_is = head_is ∙ head_between;
          body_is = ap (λ (ps : Parts). lifted_items keep (numbered name (suc (suc T.numbers)) T.disjunctions ps)) body_is
              ∙ lifted_parts name (suc (suc T.numbers)) T.disjunctions is ∙ kept_items f m (others r.body) 0;
        };
        alone_is = ap (λ (ps : Parts). clauses_of_items k (numbered name (suc (suc T.numbers)) T.disjunctions ps)) body_is
            ∙ no_clauses k name (suc (suc T.numbers)) T.disjunctions is;
        called = sym (ap (λ (h : Term). is_built_in (name_of h) (arity_of h)) head_is) ∙ is_fine.called;
        known = (grows r.head (head_there T.names r)).0;
      }

-- The query for a word, whose name is a head's.
module _ (N : List Bytes) (builtins : Grows builtin_names N) (T : Table) (n : Bytes) (word : List Bytes) (line : ℕ)
    (grows : Grows (names_with T (asks n word)) N) (called : is_built_in (place n N) 2 ≡ false) where
  abbrev name : Bytes → ℕ
  name x = place x N

  abbrev q : SourceClause
  q = next_query T (asks n word) line

  met_none : met_after [] (asks n word) ≡ []
  met_none = list_met word [] (atom (codes "[]"))

  abbrev list : Written
  list = list_before (map atom word) (atom (codes "[]"))

  list_is : under N [] list ≡ list_to name word nil
  list_is = list_under N builtins [] word (atom (codes "[]"))
      ∙ ap (λ (c : ℕ). list_to name word (compound c none)) (builtins (codes "[]") refl).1

  asked_is : asked_of (term_with T (asks n word)) ≡ item (call (between name n (list_to name word nil) nil)) no_parts
  asked_is =
      ap asked_of (settled T.names (names_with T (asks n word)) N [] [] (asks n word) ((list_named word (atom (codes "[]")) tt, (tt, tt)), tt)
      (grows-same (names_with T (asks n word))) grows (subst (λ (xs : List Bytes). Grows xs []) (sym met_none) (grows-same [])))
      ∙ ap (λ (x : Reading). x.body) (call_reading (place n N) (under N [] list) (under N [] (atom (codes "[]"))) (reading_of (under N [] list))
      (reading_of (under N [] (atom (codes "[]")))) called)
      ∙ ap (λ (u : Term). item (call (between name n u (under N [] (atom (codes "[]"))))) no_parts) list_is
      ∙ ap (λ (c : ℕ). item (call (between name n (list_to name word nil) (compound c none))) no_parts) (builtins (codes "[]") refl).1

  pub record IsQuery : Type 0 where
    pub asks_is : (lifted_clause q).body ≡ call (between name n (list_to name word nil) nil) ∷ []
    pub written : q.written ≡ []
    pub alone_is : clauses_of_items q q.body ≡ []

  pub query_is : IsQuery
  query_is =
      let disjunctions : ℕ → ℕ = λ d. place (disjunction_name d) (all_names_with T (asks n word) (asked_of (term_with T (asks n word)))) in
      record {
        asks_is = ap (λ (ps : Parts). lifted_items keep (numbered disjunctions (suc T.numbers) T.disjunctions ps)) asked_is
            ∙ ap (λ (u : Term). call (between name n u nil) ∷ []) (apply_list name (λ p k. variable [] k) word nil);
        written = met_none;
        alone_is = ap (λ (ps : Parts). clauses_of_items q (numbered disjunctions (suc T.numbers) T.disjunctions ps)) asked_is;
      }

-- the letters of a word are among the names of a list of them
abbrev pub AllKnown : List Bytes → List Bytes → Type 0
AllKnown N [] = Unit {0}
AllKnown N (x ∷ xs) = (has x N ≡ true) × AllKnown N xs

pub letters_known : (N xs : List Bytes) (word : List Bytes) (t : Written) → Grows (named xs (list_before (map atom word) t)) N → AllKnown N word
letters_known N xs [] t g = tt
letters_known N xs (l ∷ ls) t g =
    let ys : List Bytes = including (including xs (codes ".")) l in
    let rest : List Bytes = named ys (list_before (map atom ls) t) in (
      (grows-trans ys rest N (grows-named ys (list_before (map atom ls) t)) g l (including-has (including xs (codes ".")) l)).0,
      letters_known N ys ls t g,
    )
