-- A table with what was made of one thing more.
use Rattle.std.proofs.Common.{ℕ, suc, ◌+◌, ◌≡◌, ◌≤◌, Bool, true, false, cond, List, [], ◌∷◌, ◌++◌, length, map, drop, Option, Some, None}
use Rattle.std.proofs.Common.{refl, ap}
use Rattle.std.proofs.Common.{sym, ◌∙◌, arith, subst}
use Rattle.std.proofs.lemmas.List.{length-append, length-map}
use Rattle.and_model.specs.Lines.{Bytes}
use Rattle.and_model.specs.Programs as programs
use Rattle.and_model.specs.Programs.{Clause, builtin_names}
use Rattle.and_source.specs.Source.{SourceItems, Alternatives, SourceClause, calls_in_items, calls_in_alternatives}
use Rattle.and_source.specs.Lifted.{lifted_clause, clauses_of_items, clauses_of_alternatives}
use Rattle.and_syntax.specs.Written
use Rattle.and_syntax.specs.Written.{Written, Many, nodes_of, nodes_in, has, including, named, named_all}
use Rattle.and_syntax.specs.Clauses
use Rattle.and_syntax.specs.Clauses.{Parts, no_parts, item, impure, Choices, no_choices, choice, alternatives_of, alternatives_in, disjunctions_of}
use Rattle.and_syntax.specs.Clauses.{disjunctions_within}
use Rattle.and_syntax.specs.Clauses.{numbered, numbered_in, body_of, asked_of}
use Rattle.and_syntax.specs.Tables.{Table, names_with, term_with, all_names_with, items_with, nodes_with, taken, placed, next_clause}
use Rattle.and_syntax.specs.Tables.{next_query}
use Rattle.and_syntax.specs.Tables.{with_clause, with_query, lifted_nodes}
use Rattle.and_source.specs.Source.{disjunctions_in_items}
use Rattle.and_program.specs.Skeletons.{Shape, AllFall}
use Rattle.and_program.specs.Kept.{AllWithin, IsEntry, AllEntries}
use Rattle.and_program.specs.Nodes.{entry_clause}
use Rattle.and_program.specs.declared.entry.ClauseEntry.{ClauseEntry}
use Rattle.and_judging.specs.declared.data.Called.{Called}
use Rattle.and_judging.specs.declared.judging.Used.{Used}
use Rattle.and_judging.specs.Marks.{Mark, close, open_mark, next, calls_in_marks}
use Rattle.and_judging.specs.Bodies.{marks_at, choices_at}
use Rattle.and_clauses.specs.Copied.{Grown}
use Rattle.and_clauses.specs.Lifts.{AreLifted}
use Rattle.and_judging.specs.Unknown.{call_at}
use Rattle.and_clauses.specs.Kept.{IsKept}
use Rattle.and_judging.proofs.LiftedNames.{disjunctions-le}
use Rattle.and_clauses.proofs.Placing.{begins_all}
use Rattle.and_clauses.proofs.Keeping.{sized_table, calls_with, kept_clause, kept_query}

-- ---- How many clauses there are for alternatives.
mutual
  clauses-count : (k : SourceClause) (name : ℕ → ℕ) (c d : ℕ) (ps : Parts) → length (clauses_of_items k (numbered name c d ps)) ≡ alternatives_of ps
  clauses-count k name c d no_parts = refl
  clauses-count k name c d (item i ps) = clauses-count k name c d ps
  clauses-count k name c d (impure ps) = clauses-count k name c d ps
  clauses-count k name c d (Clauses.either cs ps) =
      let alts : Alternatives = numbered_in name c (suc d) cs in
      let rest : SourceItems = numbered name (c + alternatives_in cs) (suc (d + disjunctions_within cs)) ps in
      omega (
        arith,
        length-append (clauses_of_alternatives k (name d) alts alts) (clauses_of_items k rest),
        alternatives-count k name (name d) alts c (suc d) cs,
        clauses-count k name (c + alternatives_in cs) (suc (d + disjunctions_within cs)) ps,
      )

  alternatives-count : (k : SourceClause) (name : ℕ → ℕ) (m : ℕ) (whole : Alternatives) (c d : ℕ) (cs : Choices)
      → length (clauses_of_alternatives k m whole (numbered_in name c d cs)) ≡ alternatives_in cs
  alternatives-count k name m whole c d no_choices = refl
  alternatives-count k name m whole c d (choice ps cs) =
      let first : SourceItems = numbered name (suc c) d ps in
      let rest : Alternatives = numbered_in name (suc (c + alternatives_of ps)) (d + disjunctions_of ps) cs in
      omega (
        arith,
        length-append (clauses_of_items k first) (clauses_of_alternatives k m whole rest),
        clauses-count k name (suc c) d ps,
        alternatives-count k name m whole (suc (c + alternatives_of ps)) (d + disjunctions_of ps) cs,
      )

-- ---- The calls among marks.
calls-append : (ms ns : List Mark) → calls_in_marks (ms ++ ns) ≡ calls_in_marks ms ++ calls_in_marks ns
calls-append [] ns = refl
calls-append (Mark.item (programs.call g) ∷ ms) ns = ap (λ gs. g ∷ gs) (calls-append ms ns)
calls-append (Mark.item (programs.equal a b) ∷ ms) ns = calls-append ms ns
calls-append (Mark.item (programs.arithmetic a) ∷ ms) ns = calls-append ms ns
calls-append (Mark.item programs.fail ∷ ms) ns = calls-append ms ns
calls-append (open_mark d ∷ ms) ns = calls-append ms ns
calls-append (next c ∷ ms) ns = calls-append ms ns
calls-append (close ∷ ms) ns = calls-append ms ns

mutual
  pub calls_are : (name : ℕ → ℕ) (c d : ℕ) (ps : Parts) → calls_in_marks (marks_at c d ps) ≡ calls_in_items (numbered name c d ps)
  calls_are name c d no_parts = refl
  calls_are name c d (item (programs.call g) ps) = ap (λ gs. g ∷ gs) (calls_are name c d ps)
  calls_are name c d (item (programs.equal a b) ps) = calls_are name c d ps
  calls_are name c d (item (programs.arithmetic a) ps) = calls_are name c d ps
  calls_are name c d (item programs.fail ps) = calls_are name c d ps
  calls_are name c d (impure ps) = calls_are name c d ps
  calls_are name c d (Clauses.either cs ps) =
      let inner : List Mark = choices_at c (suc d) cs in
      let rest : List Mark = marks_at (c + alternatives_in cs) (suc (d + disjunctions_within cs)) ps in
      calls-append inner (close ∷ rest)
      ∙ ap (λ gs. gs ++ calls_in_marks rest) (calls_within name c (suc d) cs)
      ∙ ap (λ gs. calls_in_alternatives (numbered_in name c (suc d) cs) ++ gs)
      (calls_are name (c + alternatives_in cs) (suc (d + disjunctions_within cs)) ps)

  calls_within : (name : ℕ → ℕ) (c d : ℕ) (cs : Choices) → calls_in_marks (choices_at c d cs) ≡ calls_in_alternatives (numbered_in name c d cs)
  calls_within name c d no_choices = refl
  calls_within name c d (choice ps cs) =
      let first : List Mark = marks_at (suc c) d ps in
      let rest : List Mark = choices_at (suc (c + alternatives_of ps)) (d + disjunctions_of ps) cs in
      calls-append first rest
      ∙ ap (λ gs. gs ++ calls_in_marks rest) (calls_are name (suc c) d ps)
      ∙ ap (λ gs. calls_in_items (numbered name (suc c) d ps) ++ gs)
      (calls_within name (suc (c + alternatives_of ps)) (d + disjunctions_of ps) cs)

-- ---- How many names there are.
including-le : (names : List Bytes) (x : Bytes) → length (including names x) ≤ length names + 1
including-le names x = by (has x names)
  where
    by : (b : Bool) → length (cond b names (names ++ x ∷ [])) ≤ length names + 1
    by true = omega arith
    by false = omega (arith, length-append names (x ∷ []))

mutual
  pub named-le : (names : List Bytes) (w : Written) → length (named names w) ≤ length names + nodes_of w
  named-le names (Written.variable x) = omega arith
  named-le names (Written.integer z) = omega arith
  named-le names (Written.compound c ts) = omega (arith, named_all-le (including names c) ts, including-le names c)

  named_all-le : (names : List Bytes) (ts : Many) → length (named_all names ts) ≤ length names + nodes_in ts
  named_all-le names Written.none = omega arith
  named_all-le names (Written.more t ts) = omega (arith, named_all-le (named names t) ts, named-le names t)

-- ---- The table with these names and sizes.
sized_is : (T : Table) (w : Written) (ps : Parts) (n : ℕ) (names : List Bytes) (now : Used) → names ≡ all_names_with T w ps
    → now.nodes ≡ T.nodes + nodes_with T w ps → now.numbers ≡ T.numbers + n → now.disjunctions ≡ T.disjunctions + disjunctions_of ps
    → sized_table T names now ≡ taken T w ps n
sized_is T w ps n names now a b c d =
    let made : List Bytes → ℕ → ℕ → ℕ → Table =
    λ xs k m l. record T { names = xs; nodes = k; numbers = m; disjunctions = l } in
    ap (λ xs. made xs now.nodes now.numbers now.disjunctions) a ∙ ap (λ k. made (all_names_with T w ps) k now.numbers now.disjunctions) b
    ∙ ap (λ m. made (all_names_with T w ps) (T.nodes + nodes_with T w ps) m now.disjunctions) c
    ∙ ap (made (all_names_with T w ps) (T.nodes + nodes_with T w ps) (T.numbers + n)) d

module _ (ss vs : List Shape) (es fs gs : List ClauseEntry) (calls more : List Called) (names new : List Bytes) (used now : Used) (T : Table) (w : Written)
    (line : ℕ) (ps : Parts) (n : ℕ) (named_is : new ≡ all_names_with T w ps) (grown : Grown (length new) ss vs (length ss + nodes_with T w ps))
    (nodes : now.nodes ≡ T.nodes + nodes_with T w ps) (numbers : now.numbers ≡ T.numbers + n)
    (disjunctions : now.disjunctions ≡ T.disjunctions + disjunctions_of ps) (few_nodes : now.nodes ≤ 524288) (few_clauses : now.numbers ≤ 65535)
    (few : disjunctions_of ps ≤ lifted_nodes (disjunctions_in_items (items_with T w 0 ps))) (entries : gs ≡ es ++ fs) where
  abbrev us : List Shape
  us = drop (length ss) vs

  all : vs ≡ ss ++ us
  all = begins_all ss vs grown.kept

  few_new : (query : Option ClauseEntry) → IsKept ss es query calls names used T → length new ≤ length builtin_names + now.nodes
  few_new query kept =
      omega (
        arith,
        ap length named_is,
        disjunctions-le T.disjunctions (disjunctions_of ps) (names_with T w),
        named-le T.names w,
        ap length kept.all_names,
        kept.few_names,
        kept.all_nodes,
        nodes,
        few,
      )

  pub clause_kept : (query : Option ClauseEntry) → ps ≡ body_of (term_with T w) → n ≡ suc (alternatives_of ps)
      → AreLifted vs fs (lifted_clause (next_clause T w line) ∷ clauses_of_items (next_clause T w line) (next_clause T w line).body)
      → more ≡ calls ++ map (call_at line) (calls_in_items (next_clause T w line).body)
      → IsKept ss es query calls names used T → IsKept vs gs query more new now (with_clause T w line)
  clause_kept query body count lifted called kept =
      let k : SourceClause = next_clause T w line in
      let size : length fs ≡ suc (alternatives_of (body_of (term_with T w))) =
      sym (length-map fs (entry_clause vs)) ∙ ap length lifted.clauses
      ∙ ap suc (clauses-count k _ (suc (suc T.numbers)) T.disjunctions (body_of (term_with T w))) in
      let table : placed (sized_table T new now) k ≡ with_clause T w line =
      ap (λ U. placed U k) (sized_is T w ps n new now named_is nodes numbers disjunctions
      ∙ ap (taken T w ps) (count ∙ ap (λ qs. suc (alternatives_of qs)) body)
      ∙ ap (λ qs. taken T w qs (suc (alternatives_of (body_of (term_with T w))))) body) in
      let made = kept_clause ss us es fs query calls names new used now T k kept (subst (AllFall 0) all grown.falls)
      (subst (AllWithin (length new)) all grown.within) (subst (λ xs. AllEntries xs fs) all lifted.entries)
      (ap (λ xs. map (entry_clause xs) fs) (sym all) ∙ lifted.clauses)
      (omega (arith, ap length all, grown.few, kept.few_nodes, kept.all_nodes, nodes)) few_nodes
      few_clauses (few_new query kept)
      (omega (arith, disjunctions, nodes, kept.few_disjunctions, kept.all_disjunctions, kept.all_nodes, few))
      (omega (arith, kept.numbered, kept.all_numbers, size, numbers, count, ap alternatives_of body)) in
      subst (λ xs. IsKept xs gs query more new now (with_clause T w line)) (sym all)
      (subst (λ xs. IsKept (ss ++ us) xs query more new now (with_clause T w line)) (sym entries)
      (subst (λ xs. IsKept (ss ++ us) (es ++ fs) query xs new now (with_clause T w line)) (sym called)
      (subst (IsKept (ss ++ us) (es ++ fs) query (calls ++ calls_with k) new now) table made)))

  pub query_kept : (e : ClauseEntry) → ps ≡ asked_of (term_with T w) → n ≡ alternatives_of ps → e.head.0 ≡ 0
      → AreLifted vs (e ∷ fs) (lifted_clause (next_query T w line) ∷ clauses_of_items (next_query T w line) (next_query T w line).body)
      → more ≡ calls ++ map (call_at line) (calls_in_items (next_query T w line).body)
      → IsKept ss es None calls names used T → IsKept vs gs (Some e) more new now (with_query T w line)
  query_kept e body count head lifted called kept =
      let k : SourceClause = next_query T w line in
      let own : entry_clause vs e ≡ lifted_clause k = ap (λ (cs : List Clause). first_clause cs) lifted.clauses in
      let others : map (entry_clause vs) fs ≡ clauses_of_items k k.body = ap (drop 1) lifted.clauses in
      let size : length fs ≡ alternatives_of (asked_of (term_with T w)) =
      sym (length-map fs (entry_clause vs)) ∙ ap length others ∙ clauses-count k _ (suc T.numbers) T.disjunctions (asked_of (term_with T w)) in
      let U : Table = taken T w (asked_of (term_with T w)) (alternatives_of (asked_of (term_with T w))) in
      let table : record (sized_table T new now) { asked = Some k } ≡ with_query T w line =
      ap (λ (V : Table). record V { asked = Some k }) (sized_is T w ps n new now named_is nodes numbers disjunctions
      ∙ ap (taken T w ps) (count ∙ ap alternatives_of body)
      ∙ ap (λ qs. taken T w qs (alternatives_of (asked_of (term_with T w)))) body) in
      let made = kept_query ss us es fs e calls names new used now T k kept head (subst (λ xs. IsEntry xs e) all lifted.entries.0)
      (ap (λ xs. entry_clause xs e) (sym all) ∙ own)
      (subst (AllFall 0) all grown.falls) (subst (AllWithin (length new)) all grown.within) (subst (λ xs. AllEntries xs fs) all lifted.entries.1)
      (ap (λ xs. map (entry_clause xs) fs) (sym all) ∙ others) (omega (arith, ap length all, grown.few, kept.few_nodes, kept.all_nodes, nodes)) few_nodes
      few_clauses (few_new None kept)
      (omega (arith, disjunctions, nodes, kept.few_disjunctions, kept.all_disjunctions, kept.all_nodes, few))
      (omega (arith, kept.numbered, kept.all_numbers, size, numbers, count, ap alternatives_of body)) in
      subst (λ xs. IsKept xs gs (Some e) more new now (with_query T w line)) (sym all)
      (subst (λ xs. IsKept (ss ++ us) xs (Some e) more new now (with_query T w line)) (sym entries)
      (subst (λ xs. IsKept (ss ++ us) (es ++ fs) (Some e) xs new now (with_query T w line)) (sym called)
      (subst (IsKept (ss ++ us) (es ++ fs) (Some e) (calls ++ calls_with k) new now) table made)))
    where
      first_clause : List Clause → Clause
      first_clause [] = lifted_clause (next_query T w line)
      first_clause (c ∷ cs) = c
