-- Queries that are put to clauses, and taken back.
use Rattle.std.proofs.Common.{ℕ, ◌≡◌, List, [], ◌∷◌, ◌++◌, length, map, take, drop, Option, Some, None, Vec, refl, sym, ap, ◌∙◌, subst, arith, inl, inr}
use Rattle.std.specs.HashMap.{HashMap}
use Rattle.std.specs.Option.{IfSome, option_map}
use Rattle.std.proofs.lemmas.Bool.{cases_lt}
use Rattle.std.proofs.lemmas.List.{take_all, length-take}
use Rattle.and_model.specs.Lines.{Bytes}
use Rattle.and_model.specs.Programs.{Clause, Program}
use Rattle.and_model.specs.declared.numbers.ClauseNo.{ClauseNo}
use Rattle.and_source.specs.Source.{SourceClause}
use Rattle.and_source.specs.Lifted.{lift}
use Rattle.and_syntax.specs.Written.{Written}
use Rattle.and_syntax.specs.Tables.{Table, with_query, unknown_in, unknown_of, program_of}
use Rattle.and_program.specs.Kept.{AllEntries}
use Rattle.and_program.specs.Loaded.{program_in, nodes_in, entries_in, names_in}
use Rattle.and_program.specs.Nodes.{entry_clause, shapes_of, names_of}
use Rattle.and_program.specs.Predicates.{Finds}
use Rattle.and_program.specs.Skeletons.{Shape}
use Rattle.and_program.specs.declared.entry.ClauseEntry.{ClauseEntry}
use Rattle.and_program.specs.declared.loaded.Loaded.{Loaded}
use Rattle.and_program.specs.declared.predicates.Predicate.{Predicate}
use Rattle.and_clauses.specs.Asking.{Ground, ground_by, asked_ground, asked_table, IsSetSo, StandsOn}
use Rattle.and_clauses.specs.Copies.{Begins}
use Rattle.and_drafts.specs.Drafts.{draft_of}
use Rattle.and_clauses.specs.Kept.{IsKept}
use Rattle.and_clauses.specs.Makes.{Keeps, Grows}
use Rattle.and_judging.specs.Sealing.{Seals}
use Rattle.and_judging.specs.Unknown.{unknown_at, first_called}
use Rattle.and_clauses.specs.declared.asked.Asked.{Asked}
use Rattle.and_judging.specs.declared.data.Called.{Called}
use Rattle.and_drafts.specs.declared.draft.ClauseDraft.{ClauseDraft}
use Rattle.and_judging.specs.declared.judging.Used.{Used}
use Rattle.and_clauses.specs.declared.making.Lengths.{Lengths}
use Rattle.and_clauses.specs.declared.making.Lists.{Lists}
use Rattle.and_clauses.proofs.Adding.{one_term}
use Rattle.and_clauses.proofs.Cutting.{kept_same}
use Rattle.and_clauses.proofs.Keeping.{kept_lifted, entries_front}
use Rattle.and_clauses.proofs.Placing.{begins_all}
use Rattle.and_clauses.proofs.TableCalls.{TableFits, query_fits, first_of_table}

-- ---- lists that are longer, and the same as far as they went

pub all_there : (es fs : List ClauseEntry) → take (length es) fs ≡ es → length fs ≡ length es → fs ≡ es
all_there es fs e l = sym (take_all (length es) fs (omega (arith, l))) ∙ e

-- nodes behind them leave the clauses as they are
pub clauses_stay : (ss vs : List Shape) (es : List ClauseEntry) → Begins ss vs → AllEntries ss es → map (entry_clause vs) es ≡ map (entry_clause ss) es
clauses_stay ss vs es b a =
    let us = drop (length ss) vs in
    ap (λ xs. map (entry_clause xs) es) (begins_all ss vs b) ∙ entries_front ss us es a

pub found_behind : {Z S : Type 0} (found : HashMap Predicate (Vec ClauseNo Z) S) (ss vs : List Shape) (es fs : List ClauseEntry)
    → Begins ss vs → AllEntries ss es
    → fs ≡ es → Finds found (map (entry_clause ss) es) → Finds found (map (entry_clause vs) fs)
found_behind found ss vs es fs b a same f =
    subst (λ cs. Finds found cs) (sym (ap (map (entry_clause vs)) same ∙ clauses_stay ss vs es b a)) f

cut_begins : (n : ℕ) (vs : List Shape) → Begins (take n vs) vs
cut_begins n vs = elim (cases_lt n (length vs)) [
  | inl less ↦
      let long : length (take n vs) ≡ n = omega (arith, less, length-take n vs) in
      ap (λ k. take k vs) long
  | inr more ↦
      let whole = take_all n vs more in
      ap (λ xs. take (length xs) vs) whole ∙ take_all (length vs) vs (omega arith) ∙ sym whole
]

pub found_before : {Z S : Type 0} (found : HashMap Predicate (Vec ClauseNo Z) S) (n : ℕ) (vs us : List Shape) (es fs : List ClauseEntry) → us ≡ take n vs
    → AllEntries (take n vs) es → fs ≡ es → Finds found (map (entry_clause vs) es) → Finds found (map (entry_clause us) fs)
found_before found n vs us es fs cut a same f =
    let stay = clauses_stay (take n vs) vs es (cut_begins n vs) a in
    subst (λ xs. Finds found (map (entry_clause xs) fs)) (sym cut)
    (subst (λ xs. Finds found (map (entry_clause (take n vs)) xs)) (sym same) (subst (λ cs. Finds found cs) stay f))

-- ---- lists that were cut to what they were, or stand behind it

module _ (old mid : Lists) (lengths : Lengths) (names : lengths.names ≡ length (names_of old.names.keys))
    (nodes : lengths.nodes ≡ length (shapes_of old.nodes.items)) (clauses : lengths.clauses ≡ length old.clauses.items)
    (calls : lengths.calls ≡ length old.calls.items) (g : Grows old mid) where
  pub nodes_before : take lengths.nodes (shapes_of mid.nodes.items) ≡ shapes_of old.nodes.items
  nodes_before = ap (λ n. take n (shapes_of mid.nodes.items)) nodes ∙ g.nodes

  clauses_before : take lengths.clauses mid.clauses.items ≡ old.clauses.items
  clauses_before = ap (λ n. take n mid.clauses.items) clauses ∙ g.clauses

  names_before : take lengths.names (names_of mid.names.keys) ≡ names_of old.names.keys
  names_before = ap (λ n. take n (names_of mid.names.keys)) names ∙ g.names

  calls_before : take lengths.calls mid.calls.items ≡ old.calls.items
  calls_before = ap (λ n. take n mid.calls.items) calls ∙ g.calls

  -- no clause was added
  pub same_clauses : length mid.clauses.items ≡ lengths.clauses → mid.clauses.items ≡ old.clauses.items
  same_clauses l = all_there old.clauses.items mid.clauses.items g.clauses (l ∙ clauses)

  -- what is there before a query that is put
  pub asked_kept : (l : Loaded) (used : Used) (T : Table) → nodes_in l ≡ shapes_of mid.nodes.items → entries_in l ≡ mid.clauses.items
      → names_in l ≡ names_of mid.names.keys → length mid.clauses.items ≡ lengths.clauses → Keeps old None used T
      → IsKept (take lengths.nodes (nodes_in l)) (entries_in l) None (take lengths.calls mid.calls.items) (take lengths.names (names_in l)) used T
  asked_kept l used T ns es ms many k =
      kept_same (shapes_of old.nodes.items) (take lengths.nodes (nodes_in l)) old.clauses.items (entries_in l) None old.calls.items
      (take lengths.calls mid.calls.items) (names_of old.names.keys) (take lengths.names (names_in l)) used T (ap (take lengths.nodes) ns ∙ nodes_before)
      (es ∙ same_clauses many) calls_before (ap (take lengths.names) ms ∙ names_before) k

  pub asked_ground_same : (l : Loaded) → nodes_in l ≡ shapes_of mid.nodes.items → entries_in l ≡ mid.clauses.items → length mid.clauses.items ≡ lengths.clauses
      → ground_by (take lengths.nodes (nodes_in l)) (entries_in l) ≡ ground_by (shapes_of old.nodes.items) old.clauses.items
  asked_ground_same l ns es many =
      ap (λ xs. ground_by xs (entries_in l)) (ap (take lengths.nodes) ns ∙ nodes_before)
      ∙ ap (ground_by (shapes_of old.nodes.items)) (es ∙ same_clauses many)

  -- the numbers of clauses serve with the nodes of a query behind them
  pub found_asked : {Z S : Type 0} (found : HashMap Predicate (Vec ClauseNo Z) S) → length mid.clauses.items ≡ lengths.clauses
      → AllEntries (shapes_of old.nodes.items) old.clauses.items → Finds found (map (entry_clause (shapes_of old.nodes.items)) old.clauses.items)
      → Finds found (map (entry_clause (shapes_of mid.nodes.items)) mid.clauses.items)
  found_asked found many a f =
      found_behind found (shapes_of old.nodes.items) (shapes_of mid.nodes.items) old.clauses.items mid.clauses.items g.nodes a (same_clauses many) f

  -- and what was cut is as it was
  pub cut_ground : (new : Lists) → shapes_of new.nodes.items ≡ take lengths.nodes (shapes_of mid.nodes.items)
      → new.clauses.items ≡ take lengths.clauses mid.clauses.items
      → ground_by (shapes_of new.nodes.items) new.clauses.items ≡ ground_by (shapes_of old.nodes.items) old.clauses.items
  cut_ground new ns es =
      ap (λ xs. ground_by xs new.clauses.items) (ns ∙ nodes_before) ∙ ap (ground_by (shapes_of old.nodes.items)) (es ∙ clauses_before)

  pub found_cut : {Z S : Type 0} (found : HashMap Predicate (Vec ClauseNo Z) S) (new : Lists)
      → shapes_of new.nodes.items ≡ take lengths.nodes (shapes_of mid.nodes.items)
      → new.clauses.items ≡ take lengths.clauses mid.clauses.items → Finds found (map (entry_clause (shapes_of old.nodes.items)) old.clauses.items)
      → Finds found (map (entry_clause (shapes_of new.nodes.items)) new.clauses.items)
  found_cut found new ns es f =
      subst (λ (x : Ground). Finds found (map (entry_clause x.nodes) x.entries)) (sym (cut_ground new ns es)) f

-- ---- a query that is taken back

module _ (a : Asked) (new : Lists) (ns : shapes_of new.nodes.items ≡ take a.lengths.nodes (nodes_in a.loaded))
    (es : new.clauses.items ≡ take a.lengths.clauses (entries_in a.loaded)) where
  whole_entries : new.clauses.items ≡ entries_in a.loaded
  whole_entries = es ∙ take_all a.lengths.clauses (entries_in a.loaded) (omega (arith, a.all))

  pub taken_ground : ground_by (shapes_of new.nodes.items) new.clauses.items ≡ asked_ground a
  taken_ground = ap (λ xs. ground_by xs new.clauses.items) ns ∙ ap (ground_by (take a.lengths.nodes (nodes_in a.loaded))) whole_entries

  pub taken_kept : names_of new.names.keys ≡ take a.lengths.names (names_in a.loaded) → new.calls.items ≡ take a.lengths.calls a.calls.items
      → Keeps new None a.used (asked_table a)
  taken_kept ms ks =
      kept_same (take a.lengths.nodes (nodes_in a.loaded)) (shapes_of new.nodes.items) (entries_in a.loaded) new.clauses.items None
      (take a.lengths.calls a.calls.items) new.calls.items (take a.lengths.names (names_in a.loaded)) (names_of new.names.keys) a.used (asked_table a)
      ns whole_entries ks ms a.kept

  pub taken_found : {Z S : Type 0} (found : HashMap Predicate (Vec ClauseNo Z) S) → Finds found (map (entry_clause (nodes_in a.loaded)) (entries_in a.loaded))
      → Finds found (map (entry_clause (shapes_of new.nodes.items)) new.clauses.items)
  taken_found found f =
      found_before found a.lengths.nodes (nodes_in a.loaded) (shapes_of new.nodes.items) (entries_in a.loaded) new.clauses.items ns a.kept.entries
      whole_entries f

-- its program stands on the clauses
pub stands_asked : (a : Asked) (l : Loaded) → l ≡ a.loaded → StandsOn (asked_ground a) l
stands_asked a l same =
    let here : StandsOn (asked_ground a) a.loaded = record {
      begins = cut_begins a.lengths.nodes (nodes_in a.loaded);
      entries = refl;
      there = a.kept.entries;
    } in
    subst (StandsOn (asked_ground a)) (sym same) here

-- ---- the program of a query that is put

module _ (ss : List Shape) (es : List ClauseEntry) (e : ClauseEntry) (calls : List Called) (names : List Bytes) (used : Used) (U : Table)
    (kept : IsKept ss es (Some e) calls names used U) (fits : TableFits U) where
  lifted : (q : SourceClause) × (U.asked ≡ Some q) × (program_in ss e es names ≡ lift (program_of U q))
  lifted = kept_lifted ss es e calls names used U kept

  told : None ≡ first_called (map (entry_clause ss) es) calls → None ≡ unknown_of U lifted.0
  told first =
      let q : SourceClause = lifted.0 in
      let clauses : List Clause = map (entry_clause ss) es in
      ap (option_map (unknown_at names)) (first ∙ ap (first_called clauses) kept.called) ∙ first_of_table names clauses U q fits lifted.1
      ∙ ap (λ ns. unknown_in ns clauses (U.earlier ++ q ∷ U.later)) kept.all_names
      ∙ ap (λ (P : Program). unknown_in U.names P.clauses (U.earlier ++ q ∷ U.later)) lifted.2

  pub put_seals : (P : Program) → P ≡ program_in ss e es names → None ≡ first_called (map (entry_clause ss) es) calls → Seals U P
  put_seals P is first = (lifted.0, lifted.1, sym (told first), is ∙ lifted.2)

pub asked_fits_too : (T : Table) (d : ClauseDraft) (w : Written) → TableFits T → (draft_of d).finished ≡ w ∷ [] → TableFits (with_query T w d.line)
asked_fits_too T d w f one = subst (λ v. TableFits (with_query T v d.line)) (one_term d w one) (query_fits T d d.line f)

-- ---- a query that is set

pub set_so : (mid : Lists) (query : ClauseEntry) (o : Option ClauseEntry) (T : Table) (d : ClauseDraft) (w : Written) → o ≡ Some query
    → IfSome o (IsSetSo mid T w (draft_of d).line) → IsSetSo mid T w (draft_of d).line query
set_so mid query o T d w is set = subst (λ x. IfSome x (IsSetSo mid T w (draft_of d).line)) is set
