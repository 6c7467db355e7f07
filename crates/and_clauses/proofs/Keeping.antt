-- Tables grow, and are sealed.
use Rattle.std.proofs.Common.{ℕ, ◌+◌, ◌≡◌, ◌≤◌, true, List, [], ◌∷◌, ◌++◌, length, map, Option, Some, None, refl}
use Rattle.std.proofs.Common.{ap, sym, ◌∙◌, arith, subst}
use Rattle.std.proofs.lemmas.List.{append_assoc, append-nil, length-append, map-append}
use Rattle.and_model.specs.Lines.{Bytes}
use Rattle.and_model.specs.Terms.{Term}
use Rattle.and_model.specs.Programs as programs
use Rattle.and_model.specs.Programs.{Clause, Item, Program, builtin_names}
use Rattle.and_source.specs.Source.{SourceClause, calls_in_items}
use Rattle.and_source.specs.Lifted.{lifted_clause, clauses_of, clauses_of_items, lift}
use Rattle.and_syntax.specs.Tables.{Table, placed, program_of}
use Rattle.and_program.specs.Skeletons.{Shape, variable, number, compound, AllFall, node_term, NodeItem, call, equal, is, compare, fail, item_of, IsThere}
use Rattle.and_program.specs.Skeletons.{AllThere, after}
use Rattle.and_program.specs.Items.{node_item}
use Rattle.and_program.specs.Kept.{begins_with_true, AllWithin, IsEntry, AllEntries, IsProgram}
use Rattle.and_program.specs.Nodes.{entry_clause}
use Rattle.and_program.specs.Loaded.{program_in}
use Rattle.and_program.specs.declared.entry.ClauseEntry.{ClauseEntry}
use Rattle.and_program.proofs.NodeTerms.{node_term_front}
use Rattle.and_model.specs.OwnVariables.{HasOwnVariables}
use Rattle.and_judging.specs.declared.data.Called.{Called}
use Rattle.and_judging.specs.declared.judging.Used.{Used}
use Rattle.and_clauses.specs.Same.{same_clause}
use Rattle.and_judging.specs.Unknown.{call_at, calls_of}
use Rattle.and_clauses.specs.Kept.{asked_clauses, lifted_of, asked_calls, called_of, IsAsked, IsKept}
use Rattle.and_clauses.proofs.Sameness.{clause-is, clause-same, clauses-are, clauses-same}

-- ---- Entries among more nodes.
module _ (ss us : List Shape) where
  abbrev all : List Shape
  all = ss ++ us

  more_length : length ss ≤ length all
  more_length = omega (arith, length-append ss us)

  item_front : (k : ℕ) (i : NodeItem) → IsThere ss k i → item_of all i ≡ item_of ss i
  item_front k (call n) t = ap (λ x. programs.call x) (node_term_front ss us n t)
  item_front k (equal n m) t =
      ap (λ x. programs.equal x (node_term all m)) (node_term_front ss us n t.0)
      ∙ ap (λ x. programs.equal (node_term ss n) x) (node_term_front ss us m t.1)
  item_front k (is n m pair) t =
      ap (λ x. programs.arithmetic (programs.is x (node_term all m))) (node_term_front ss us n t.0)
      ∙ ap (λ x. programs.arithmetic (programs.is (node_term ss n) x)) (node_term_front ss us m t.1)
  item_front k (compare r n m) t =
      ap (λ x. programs.arithmetic (programs.compare r x (node_term all m))) (node_term_front ss us n t.0)
      ∙ ap (λ x. programs.arithmetic (programs.compare r (node_term ss n) x)) (node_term_front ss us m t.1)
  item_front k fail t = refl

  pub items_front : (k : ℕ) (items : List NodeItem) → AllThere ss k items → map (item_of all) items ≡ map (item_of ss) items
  items_front k [] t = refl
  items_front k (i ∷ items) t =
      ap (λ x. x ∷ map (item_of all) items) (item_front k i t.0) ∙ ap (λ xs. item_of ss i ∷ xs) (items_front (after k i) items t.1)

  there_front : (k : ℕ) (i : NodeItem) → IsThere ss k i → IsThere all k i
  there_front k (call n) t = omega (arith, more_length)
  there_front k (equal n m) t = (omega (arith, more_length, t.0), omega (arith, more_length, t.1))
  there_front k (is n m pair) t = (omega (arith, more_length, t.0), omega (arith, more_length, t.1), t.2)
  there_front k (compare r n m) t = (omega (arith, more_length, t.0), omega (arith, more_length, t.1))
  there_front k fail t = tt

  pub all_there_front : (k : ℕ) (items : List NodeItem) → AllThere ss k items → AllThere all k items
  all_there_front k [] t = tt
  all_there_front k (i ∷ items) t = (there_front k i t.0, all_there_front (after k i) items t.1)

  pub entry_front : (e : ClauseEntry) → IsEntry ss e → entry_clause all e ≡ entry_clause ss e
  entry_front e i =
      let c : Term → List Item → Clause =
      λ h b. record { head = h; body = b; variables = length e.variables.items; written = e.variables.items; line = e.line } in
      ap (λ h. c h (map (item_of all) (map node_item e.items.items))) (node_term_front ss us e.head.0 i.0)
      ∙ ap (c (node_term ss e.head.0)) (items_front 0 (map node_item e.items.items) i.1)

  pub is_entry_front : (e : ClauseEntry) → IsEntry ss e → IsEntry all e
  is_entry_front e i =
      (omega (arith, more_length, i.0), all_there_front 0 (map node_item e.items.items) i.1, subst HasOwnVariables (sym (entry_front e i)) i.2)

  pub entries_front : (es : List ClauseEntry) → AllEntries ss es → map (entry_clause all) es ≡ map (entry_clause ss) es
  entries_front [] a = refl
  entries_front (e ∷ es) a = ap (λ c. c ∷ map (entry_clause all) es) (entry_front e a.0) ∙ ap (λ cs. entry_clause ss e ∷ cs) (entries_front es a.1)

  pub are_entries_front : (es : List ClauseEntry) → AllEntries ss es → AllEntries all es
  are_entries_front [] a = tt
  are_entries_front (e ∷ es) a = (is_entry_front e a.0, are_entries_front es a.1)

pub entries_append : (ss : List Shape) (es fs : List ClauseEntry) → AllEntries ss es → AllEntries ss fs → AllEntries ss (es ++ fs)
entries_append ss [] fs a b = b
entries_append ss (e ∷ es) fs a b = (a.0, entries_append ss es fs a.1 b)

-- ---- One clause more.
clauses_of-append : (ks js : List SourceClause) → clauses_of (ks ++ js) ≡ clauses_of ks ++ clauses_of js
clauses_of-append [] js = refl
clauses_of-append (k ∷ ks) js =
    ap (λ cs. lifted_clause k ∷ clauses_of_items k k.body ++ cs) (clauses_of-append ks js)
    ∙ sym (append_assoc (lifted_clause k ∷ clauses_of_items k k.body) (clauses_of ks) (clauses_of js))

calls_of-append : (ks js : List SourceClause) → calls_of (ks ++ js) ≡ calls_of ks ++ calls_of js
calls_of-append [] js = refl
calls_of-append (k ∷ ks) js =
    ap (λ cs. map (call_at k.line) (calls_in_items k.body) ++ cs) (calls_of-append ks js)
    ∙ sym (append_assoc (map (call_at k.line) (calls_in_items k.body)) (calls_of ks) (calls_of js))

-- what a clause adds to both
abbrev pub clauses_with : SourceClause → List Clause
clauses_with k = lifted_clause k ∷ clauses_of_items k k.body

abbrev pub calls_with : SourceClause → List Called
calls_with k = map (call_at k.line) (calls_in_items k.body)

nil_of : {X : Type 0} (xs : List X) → length xs ≡ 0 → xs ≡ []
nil_of [] e = refl
nil_of (x ∷ xs) e = absurd (omega (arith, e))

abbrev table_by : List SourceClause → Option SourceClause → List SourceClause → Table → Table
table_by earlier asked later T = record T { earlier = earlier; asked = asked; later = later }

-- a clause is lifted behind the others
pub placed_lifted : (T : Table) (k : SourceClause) → (T.asked ≡ None → length T.later ≡ 0) → lifted_of (placed T k) ≡ lifted_of T ++ clauses_with k
placed_lifted T k none = by T.asked none
  where
    by : (a : Option SourceClause) → (a ≡ None → length T.later ≡ 0)
        → lifted_of (placed (table_by T.earlier a T.later T) k) ≡ ((clauses_of T.earlier ++ asked_clauses a) ++ clauses_of T.later) ++ clauses_with k
    by None none =
        let e : T.later ≡ [] = nil_of T.later (none refl) in
        let xs : List Clause = clauses_of T.earlier in
        let new : List Clause = clauses_of (T.earlier ++ k ∷ []) in
        ap (λ js. (new ++ []) ++ clauses_of js) e ∙ append-nil (new ++ []) ∙ append-nil new
        ∙ clauses_of-append T.earlier (k ∷ []) ∙ ap (λ cs. xs ++ cs) (append-nil (clauses_with k))
        ∙ ap (λ cs. cs ++ clauses_with k) (sym (append-nil xs) ∙ sym (append-nil (xs ++ [])))
        ∙ ap (λ js. ((xs ++ []) ++ clauses_of js) ++ clauses_with k) (sym e)
    by (Some q) none =
        let xs : List Clause = clauses_of T.earlier ++ clauses_of_items q q.body in
        ap (λ cs. xs ++ cs) (clauses_of-append T.later (k ∷ []) ∙ ap (λ cs. clauses_of T.later ++ cs) (append-nil (clauses_with k)))
        ∙ sym (append_assoc xs (clauses_of T.later) (clauses_with k))

pub placed_called : (T : Table) (k : SourceClause) → (T.asked ≡ None → length T.later ≡ 0) → called_of (placed T k) ≡ called_of T ++ calls_with k
placed_called T k none = by T.asked none
  where
    by : (a : Option SourceClause) → (a ≡ None → length T.later ≡ 0)
        → called_of (placed (table_by T.earlier a T.later T) k) ≡ ((calls_of T.earlier ++ asked_calls a) ++ calls_of T.later) ++ calls_with k
    by None none =
        let e : T.later ≡ [] = nil_of T.later (none refl) in
        let xs : List Called = calls_of T.earlier in
        let new : List Called = calls_of (T.earlier ++ k ∷ []) in
        ap (λ js. (new ++ []) ++ calls_of js) e ∙ append-nil (new ++ []) ∙ append-nil new
        ∙ calls_of-append T.earlier (k ∷ []) ∙ ap (λ cs. xs ++ cs) (append-nil (calls_with k))
        ∙ ap (λ cs. cs ++ calls_with k) (sym (append-nil xs) ∙ sym (append-nil (xs ++ []))) ∙ ap (λ js. ((xs ++ []) ++ calls_of js) ++ calls_with k) (sym e)
    by (Some q) none =
        let xs : List Called = calls_of T.earlier ++ calls_with q in
        ap (λ cs. xs ++ cs) (calls_of-append T.later (k ∷ []) ∙ ap (λ cs. calls_of T.later ++ cs) (append-nil (calls_with k)))
        ∙ sym (append_assoc xs (calls_of T.later) (calls_with k))

-- without a query nothing stands behind it
pub none_later : (ss : List Shape) (e : Option ClauseEntry) (q : Option SourceClause) (n : ℕ) → IsAsked ss e q n → q ≡ None → n ≡ 0
none_later ss None None n a h = a
none_later ss None (Some q) n a h = absurd a
none_later ss (Some e) None n a h = absurd a
none_later ss (Some e) (Some q) n a h = absurd cc

-- ---- A table that is kept is a program once it has a query.
pub kept_program : (ss : List Shape) (es : List ClauseEntry) (e : ClauseEntry) (calls : List Called) (names : List Bytes) (used : Used) (T : Table)
    → IsKept ss es (Some e) calls names used T → IsProgram ss e es names
kept_program ss es e calls names used T k =
    let a = by T.asked (length T.later) k.asked in record {
      begins = k.begins;
      falls = k.falls;
      within = k.within;
      entries = k.entries;
      query_there = a.1;
      query_true = a.0;
      few_nodes = omega (arith, k.few_nodes, k.few_used);
      few_clauses = omega (arith, k.numbered, k.few_clauses);
    }
  where
    by : (q : Option SourceClause) (n : ℕ) → IsAsked ss (Some e) q n → (e.head.0 ≡ 0) × IsEntry ss e
    by None n a = absurd a
    by (Some q) n a = (a.0, a.1)

-- and that program is the lifted one
pub kept_lifted : (ss : List Shape) (es : List ClauseEntry) (e : ClauseEntry) (calls : List Called) (names : List Bytes) (used : Used) (T : Table)
    → IsKept ss es (Some e) calls names used T → (q : SourceClause) × (T.asked ≡ Some q) × (program_in ss e es names ≡ lift (program_of T q))
kept_lifted ss es e calls names used T k =
    by T.asked (length T.later) k.asked refl
  where
    by : (a : Option SourceClause) (n : ℕ) → IsAsked ss (Some e) a n → T.asked ≡ a
        → (q : SourceClause) × (T.asked ≡ Some q) × (program_in ss e es names ≡ lift (program_of T q))
    by None n i h = absurd i
    by (Some q) n i h =
        let lifted : map (entry_clause ss) es ≡ clauses_of T.earlier ++ clauses_of_items q q.body ++ clauses_of T.later =
        clauses-are (map (entry_clause ss) es) (lifted_of T) k.clauses ∙ ap (λ a. clauses_of T.earlier ++ asked_clauses a ++ clauses_of T.later) h in (
          q,
          h,
          ap (λ cs. let p : Program = record { clauses = cs; query = entry_clause ss e; names = names } in p) lifted
              ∙ ap (λ c. let p : Program = record {
                clauses = clauses_of T.earlier ++ clauses_of_items q q.body ++ clauses_of T.later;
                query = c;
                names = names;
              } in p)
              (clause-is (entry_clause ss e) (lifted_clause q) i.2)
              ∙ ap (λ ns. let p : Program = record {
                clauses = clauses_of T.earlier ++ clauses_of_items q q.body ++ clauses_of T.later;
                query = lifted_clause q;
                names = ns;
              } in p) k.all_names,
        )

-- ---- What a clause adds to a table that is kept.
begins_front : (ss us : List Shape) → begins_with_true ss ≡ true → begins_with_true (ss ++ us) ≡ true
begins_front [] us e = absurd cc
begins_front (variable k ∷ ss) us e = absurd cc
begins_front (number z ∷ ss) us e = absurd cc
begins_front (compound c [] ∷ ss) us e = e
begins_front (compound c (n ∷ ns) ∷ ss) us e = absurd cc

asked_front : (ss us : List Shape) (e : Option ClauseEntry) (q : Option SourceClause) (n m : ℕ) → (q ≡ None → n ≡ m) → IsAsked ss e q n
    → IsAsked (ss ++ us) e q m
asked_front ss us None None n m same a = sym (same refl) ∙ a
asked_front ss us None (Some q) n m same a = a
asked_front ss us (Some e) None n m same a = a
asked_front ss us (Some e) (Some q) n m same a =
    (a.0, is_entry_front ss us e a.1, ap (λ c. same_clause c (lifted_clause q)) (entry_front ss us e a.1) ∙ a.2)

placed_asked : (T : Table) (k : SourceClause) → (placed T k).asked ≡ T.asked
placed_asked T k = by T.asked
  where
    by : (a : Option SourceClause) → (placed (table_by T.earlier a T.later T) k).asked ≡ a
    by None = refl
    by (Some q) = refl

placed_later : (T : Table) (k : SourceClause) → (placed T k).asked ≡ None → length T.later ≡ length (placed T k).later
placed_later T k e = by T.asked (sym (placed_asked T k) ∙ e)
  where
    by : (a : Option SourceClause) → a ≡ None → length T.later ≡ length (placed (table_by T.earlier a T.later T) k).later
    by None h = refl
    by (Some q) h = absurd cc

module _ (T : Table) (k : SourceClause) where
  placed_names : (placed T k).names ≡ T.names
  placed_names = by T.asked
    where
      by : (a : Option SourceClause) → (placed (table_by T.earlier a T.later T) k).names ≡ T.names
      by None = refl
      by (Some q) = refl

  placed_nodes : (placed T k).nodes ≡ T.nodes
  placed_nodes = by T.asked
    where
      by : (a : Option SourceClause) → (placed (table_by T.earlier a T.later T) k).nodes ≡ T.nodes
      by None = refl
      by (Some q) = refl

  placed_numbers : (placed T k).numbers ≡ T.numbers
  placed_numbers = by T.asked
    where
      by : (a : Option SourceClause) → (placed (table_by T.earlier a T.later T) k).numbers ≡ T.numbers
      by None = refl
      by (Some q) = refl

  placed_disjunctions : (placed T k).disjunctions ≡ T.disjunctions
  placed_disjunctions = by T.asked
    where
      by : (a : Option SourceClause) → (placed (table_by T.earlier a T.later T) k).disjunctions ≡ T.disjunctions
      by None = refl
      by (Some q) = refl

-- the table with these names and sizes
abbrev pub sized_table : Table → List Bytes → Used → Table
sized_table T names used = record T { names = names; nodes = used.nodes; numbers = used.numbers; disjunctions = used.disjunctions }

pub kept_clause : (ss us : List Shape) (es fs : List ClauseEntry) (query : Option ClauseEntry) (calls : List Called) (names named : List Bytes)
    (used now : Used) (T : Table) (k : SourceClause)
    → IsKept ss es query calls names used T
    → AllFall 0 (ss ++ us) → AllWithin (length named) (ss ++ us) → AllEntries (ss ++ us) fs → map (entry_clause (ss ++ us)) fs ≡ clauses_with k
    → length (ss ++ us) ≤ now.nodes + 1 → now.nodes ≤ 524288 → now.numbers ≤ 65535 → length named ≤ length builtin_names + now.nodes
    → now.disjunctions ≤ now.nodes
    → length es + length fs ≡ now.numbers
    → IsKept (ss ++ us) (es ++ fs) query (calls ++ calls_with k) named now (placed (sized_table T named now) k)
kept_clause ss us es fs query calls names named used now T k kept falls within entries clauses nodes few_nodes few_numbers few_names few_disjunctions numbers =
    let V : Table = sized_table T named now in
    let none : V.asked ≡ None → length V.later ≡ 0 = none_later ss query T.asked (length T.later) kept.asked in
    let all : List Shape = ss ++ us in record {
      begins = begins_front ss us kept.begins;
      falls = falls;
      within = within;
      entries = entries_append all es fs (are_entries_front ss us es kept.entries) entries;
      clauses = clauses-same (map (entry_clause all) (es ++ fs)) (lifted_of (placed V k))
          (map-append (entry_clause all) es fs
          ∙ ap (λ cs. cs ++ map (entry_clause all) fs) (entries_front ss us es kept.entries
          ∙ clauses-are (map (entry_clause ss) es) (lifted_of T) kept.clauses)
          ∙ ap (λ cs. lifted_of T ++ cs) clauses ∙ sym (placed_lifted V k none));
      asked = subst (λ q. IsAsked all query q (length (placed V k).later)) (sym (placed_asked V k))
          (asked_front ss us query T.asked (length T.later) (length (placed V k).later) (λ h. placed_later V k (placed_asked V k ∙ h)) kept.asked);
      called = ap (λ cs. cs ++ calls_with k) kept.called ∙ sym (placed_called V k none);
      all_names = sym (placed_names V k);
      all_nodes = sym (placed_nodes V k);
      all_numbers = sym (placed_numbers V k);
      all_disjunctions = sym (placed_disjunctions V k);
      numbered = length-append es fs ∙ numbers;
      few_nodes = nodes;
      few_used = few_nodes;
      few_clauses = few_numbers;
      few_names = few_names;
      few_disjunctions = few_disjunctions;
    }

-- and what the query adds
pub kept_query : (ss us : List Shape) (es fs : List ClauseEntry) (e : ClauseEntry) (calls : List Called) (names named : List Bytes) (used now : Used)
    (T : Table) (q : SourceClause)
    → IsKept ss es None calls names used T → e.head.0 ≡ 0 → IsEntry (ss ++ us) e → entry_clause (ss ++ us) e ≡ lifted_clause q
    → AllFall 0 (ss ++ us) → AllWithin (length named) (ss ++ us) → AllEntries (ss ++ us) fs → map (entry_clause (ss ++ us)) fs ≡ clauses_of_items q q.body
    → length (ss ++ us) ≤ now.nodes + 1 → now.nodes ≤ 524288 → now.numbers ≤ 65535 → length named ≤ length builtin_names + now.nodes
    → now.disjunctions ≤ now.nodes
    → length es + length fs ≡ now.numbers
    → IsKept (ss ++ us) (es ++ fs) (Some e) (calls ++ calls_with q) named now (record (sized_table T named now) { asked = Some q })
kept_query ss us es fs e calls names named used now T q kept head there same falls within entries clauses nodes few_nodes few_numbers few_names
    few_disjunctions numbers =
    let all : List Shape = ss ++ us in
    let unasked = none_asked ss T.asked (length T.later) kept.asked in
    let later : T.later ≡ [] = nil_of T.later unasked.1 in record {
      begins = begins_front ss us kept.begins;
      falls = falls;
      within = within;
      entries = entries_append all es fs (are_entries_front ss us es kept.entries) entries;
      clauses = clauses-same (map (entry_clause all) (es ++ fs)) ((clauses_of T.earlier ++ clauses_of_items q q.body) ++ clauses_of T.later)
          (map-append (entry_clause all) es fs
          ∙ ap (λ cs. cs ++ map (entry_clause all) fs) (entries_front ss us es kept.entries
          ∙ clauses-are (map (entry_clause ss) es) (lifted_of T) kept.clauses)
          ∙ ap (λ cs. lifted_of T ++ cs) clauses
          ∙ ap (λ a. ((clauses_of T.earlier ++ asked_clauses a) ++ clauses_of T.later) ++ clauses_of_items q q.body) unasked.0
          ∙ ap (λ js. ((clauses_of T.earlier ++ []) ++ clauses_of js) ++ clauses_of_items q q.body) later
          ∙ ap (λ cs. cs ++ clauses_of_items q q.body) (append-nil (clauses_of T.earlier ++ []) ∙ append-nil (clauses_of T.earlier))
          ∙ sym (append-nil (clauses_of T.earlier ++ clauses_of_items q q.body))
          ∙ ap (λ js. (clauses_of T.earlier ++ clauses_of_items q q.body) ++ clauses_of js) (sym later));
      asked = (head, there, ap (λ c. same_clause c (lifted_clause q)) same ∙ clause-same (lifted_clause q));
      called = ap (λ cs. cs ++ calls_with q) kept.called
          ∙ ap (λ a. ((calls_of T.earlier ++ asked_calls a) ++ calls_of T.later) ++ calls_with q) unasked.0
          ∙ ap (λ js. ((calls_of T.earlier ++ []) ++ calls_of js) ++ calls_with q) later
          ∙ ap (λ cs. cs ++ calls_with q) (append-nil (calls_of T.earlier ++ []) ∙ append-nil (calls_of T.earlier))
          ∙ sym (append-nil (calls_of T.earlier ++ calls_with q))
          ∙ ap (λ js. (calls_of T.earlier ++ calls_with q) ++ calls_of js) (sym later);
      all_names = refl;
      all_nodes = refl;
      all_numbers = refl;
      all_disjunctions = refl;
      numbered = length-append es fs ∙ numbers;
      few_nodes = nodes;
      few_used = few_nodes;
      few_clauses = few_numbers;
      few_names = few_names;
      few_disjunctions = few_disjunctions;
    }
  where
    none_asked : (xs : List Shape) (a : Option SourceClause) (n : ℕ) → IsAsked xs None a n → (a ≡ None) × (n ≡ 0)
    none_asked xs None n i = (refl, i)
    none_asked xs (Some p) n i = absurd i
