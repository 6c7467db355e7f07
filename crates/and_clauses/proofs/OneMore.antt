-- How one draft more is added to a table's lists.
use Rattle.std.proofs.Common.{ℕ, suc, ◌+◌, ◌≡◌, ◌<◌, ◌≤◌, List, [], ◌∷◌, ◌++◌, length, map, take, Option, Some, None, refl, ap, sym, ◌∙◌, arith, subst}
use Rattle.std.proofs.lemmas.List.{append_assoc, length-take, take-take}
use Rattle.std.proofs.Math.Seq.{take-append_seam}
use Rattle.and_model.specs.Lines.{Bytes}
use Rattle.and_model.specs.Terms.{Term}
use Rattle.and_source.specs.Source.{SourceClause, calls_in_items}
use Rattle.and_source.specs.Lifted.{lifted_clause, clauses_of_items}
use Rattle.and_syntax.specs.Written.{Written, named}
use Rattle.and_syntax.specs.Clauses.{Parts, body_of, asked_of, head_of, alternatives_of, disjunctions_of}
use Rattle.and_syntax.specs.Tables.{Table, names_with, term_with, all_names_with, items_with, clause_of, next_clause, next_query, nodes_with, empty}
use Rattle.and_syntax.specs.Tables.{clause_fault, query_fault, with_clause, with_query}
use Rattle.and_program.specs.Skeletons.{Shape, node_term}
use Rattle.and_program.specs.declared.entry.ClauseEntry.{ClauseEntry}
use Rattle.and_drafts.specs.Drafts.{draft_of}
use Rattle.and_drafts.specs.Parts.{part_shapes, written_at}
use Rattle.and_judging.specs.Unknown.{call_at}
use Rattle.and_clauses.specs.Kept.{IsKept, IsAsked}
use Rattle.and_judging.specs.Marks.{marks_in, calls_in_marks}
use Rattle.and_judging.specs.Bodies.{marks_at}
use Rattle.and_judging.specs.Sorts.{shapes_under}
use Rattle.and_clauses.specs.Lifts.{AreLifted}
use Rattle.and_judging.specs.Verdicts.{IsUnder, IsJudged}
use Rattle.and_clauses.specs.Makes.{HasRoom, AreSides, IsReady, IsMade, clause_judged}
use Rattle.and_judging.specs.declared.body.BodyToken.{BodyToken}
use Rattle.and_judging.specs.declared.data.Called.{Called}
use Rattle.and_drafts.specs.declared.draft.ClauseDraft.{ClauseDraft}
use Rattle.and_drafts.specs.declared.draft.DraftPart.{DraftPart}
use Rattle.and_judging.specs.declared.judging.Used.{Used}
use Rattle.and_judging.specs.declared.judging.Judged.{Judged}
use Rattle.and_clauses.specs.declared.making.Made.{Made}
use Rattle.and_clauses.proofs.AddedClauses.{calls_are, named-le, clause_kept, query_kept}
use Rattle.and_clauses.proofs.MadeClauses.{within_more, count_few}
use Rattle.and_clauses.proofs.Keeping.{sized_table}
use Rattle.and_judging.proofs.LiftedNames.{disjunctions-le}
use Rattle.and_judging.proofs.Rooted.{root_written}
use Rattle.and_clauses.proofs.SameNames.{same_shapes}

-- what grew twice
pub grown_twice : {X : Type 0} (old mid new : List X) → take (length old) mid ≡ old → take (length mid) new ≡ mid → take (length old) new ≡ old
grown_twice old mid new e f =
    let le : length old ≤ length mid = omega (arith, ap length e, length-take (length old) mid) in
    sym (take-take (length old) (length mid) new le) ∙ ap (take (length old)) f ∙ e

pub grown_push : {X : Type 0} (old new : List X) (x : X) → new ≡ old ++ x ∷ [] → take (length old) new ≡ old
grown_push old new x e = ap (take (length old)) e ∙ take-append_seam old (x ∷ [])

-- an entry, and then others
pub entries_are : (es mid gs fs : List ClauseEntry) (e : ClauseEntry) → mid ≡ es ++ e ∷ [] → gs ≡ mid ++ fs → gs ≡ es ++ e ∷ fs
entries_are es mid gs fs e a b = b ∙ ap (λ xs. xs ++ fs) a ∙ append_assoc es (e ∷ []) fs

module _ (d : ClauseDraft) (xs : List DraftPart) (same : xs ≡ d.parts.items) (n : ℕ) (rooted : d.finished.items ≡ n ∷ []) (w : Written)
    (one : (draft_of d).finished ≡ w ∷ []) (old names : List Bytes) (noted : names ≡ named old (written_at (part_shapes xs) n)) where
  names_named : names ≡ named old w
  names_named = noted ∙ ap (λ ys. named old (written_at (part_shapes ys) n)) same ∙ ap (named old) (root_written d w one n rooted)

  -- the table has these names with those of the term
  pub under_is : (T : Table) (used : Used) → old ≡ T.names → used.nodes ≡ T.nodes → used.numbers ≡ T.numbers → used.disjunctions ≡ T.disjunctions
      → IsUnder T w names used
  under_is T used a b c e = record { names_are = names_named ∙ ap (λ ys. named ys w) a; nodes = b; numbers = c; disjunctions = e }

  -- and what was judged is ready
  pub ready_is : (T : Table) (ps : Parts) (c m : ℕ) (us : List Shape) (used : Used) (j : Judged) (head : Option ℕ) → HasRoom us old used
      → length old ≤ length names
      → IsUnder T w names used → IsJudged T w d.parts.items ps c m j → AreSides T w d.parts.items head ps
      → IsReady T w ps c m names us d j head used.disjunctions
  ready_is T ps c m us used j head room longer under judged sides = record {
    one = one;
    names_are = under.names_are;
    judged = judged;
    sides = sides;
    begins = room.begins;
    falls = room.falls;
    within = within_more (length old) (length names) us longer room.within;
    first_is = under.disjunctions;
    few_nodes = omega (arith, room.few_nodes, under.nodes);
    few_names = omega (arith, ap length names_named, named-le old w, room.few_names, under.nodes);
    few_disjunctions = omega (arith, room.few_disjunctions, under.nodes, under.disjunctions);
  }

-- the names grew, so there are no fewer
pub no_fewer : (old new : List Bytes) → take (length old) new ≡ old → length old ≤ length new
no_fewer old new e = omega (arith, ap length e, length-take (length old) new)

-- The clause of what was judged, and the query.
pub clause_is : (T : Table) (w : Written) (parts : List DraftPart) (head : ℕ) (ps : Parts) (line : ℕ)
    → node_term (shapes_under (names_with T w) parts) head ≡ head_of (term_with T w) → ps ≡ body_of (term_with T w)
    → record (clause_judged T w ps (suc (suc T.numbers)) (Some head) parts line) { number = suc T.numbers } ≡ next_clause T w line
clause_is T w parts head ps line e f =
    let made : Term → Parts → SourceClause = λ h qs. clause_of (suc T.numbers) w line h (items_with T w (suc (suc T.numbers)) qs) in
    ap (λ h. made h ps) e ∙ ap (made (head_of (term_with T w))) f

pub query_is : (T : Table) (w : Written) (parts : List DraftPart) (ps : Parts) (line : ℕ) → ps ≡ asked_of (term_with T w)
    → clause_judged T w ps (suc T.numbers) None parts line ≡ next_query T w line
query_is T w parts ps line f = ap (λ qs. record (next_query T w line) { body = items_with T w (suc T.numbers) qs }) f

-- The calls of its tokens.
pub calls_same : (d : ClauseDraft) (xs : List DraftPart) (T : Table) (w : Written) (ps qs : Parts) (c line : ℕ) (names : List Bytes) (ts us : List BodyToken)
    (calls more : List Called) → xs ≡ d.parts.items → (draft_of d).finished ≡ w ∷ [] → names ≡ all_names_with T w ps → ts ≡ us
    → marks_in (shapes_under (names_with T w) d.parts.items) us ≡ marks_at c T.disjunctions ps → ps ≡ qs
    → more ≡ calls ++ map (call_at line) (calls_in_marks (marks_in (shapes_under names xs) ts))
    → more ≡ calls ++ map (call_at line) (calls_in_items (items_with T w c qs))
calls_same d xs T w ps qs c line names ts us calls more same one noted tokens marks is added =
    let of : List Bytes → List DraftPart → List BodyToken → List Called =
    λ ns ys vs. calls ++ map (call_at line) (calls_in_marks (marks_in (shapes_under ns ys) vs)) in
    added ∙ ap (λ ns. of ns xs ts) noted ∙ ap (λ ys. of (all_names_with T w ps) ys ts) same ∙ ap (of (all_names_with T w ps) d.parts.items) tokens
    ∙ ap (λ ss. calls ++ map (call_at line) (calls_in_marks (marks_in ss us))) (same_shapes T w ps d one)
    ∙ ap (λ ms. calls ++ map (call_at line) (calls_in_marks ms)) marks
    ∙ ap (λ gs. calls ++ map (call_at line) gs) (calls_are _ c T.disjunctions ps)
    ∙ ap (λ rs. calls ++ map (call_at line) (calls_in_items (items_with T w c rs))) is

-- calls that were added on that line
pub calls_on : (calls more : List Called) (ss : List Shape) (ts : List BodyToken) (n line : ℕ) → n ≡ line
    → more ≡ calls ++ map (call_at n) (calls_in_marks (marks_in ss ts))
    → more ≡ calls ++ map (call_at line) (calls_in_marks (marks_in ss ts))
calls_on calls more ss ts n line is added = added ∙ ap (λ k. calls ++ map (call_at k) (calls_in_marks (marks_in ss ts))) is

-- a table without a query
pub unasked_table : (ss : List Shape) (q : Option SourceClause) (k : ℕ) → IsAsked ss None q k → q ≡ None
unasked_table ss None k a = refl
unasked_table ss (Some q) k a = absurd a

-- ---- All of it, for a clause and for a query.
module _ (d : ClauseDraft) (xs ys : List DraftPart) (same : xs ≡ d.parts.items) (n : ℕ) (rooted : d.finished.items ≡ n ∷ []) (w : Written)
    (one : (draft_of d).finished ≡ w ∷ []) (old names more_names : List Bytes) (noted : names ≡ named old (written_at (part_shapes xs) n))
    (T : Table) (used : Used)
    (us vs : List Shape) (es gs : List ClauseEntry) (calls more : List Called) (j : Judged) (m : Made) (ts : List BodyToken) (room : HasRoom us old used)
    (longer : length old ≤ length names) (parts : ys ≡ d.parts.items) (tokens : ts ≡ m.tokens.items)
    (added : more ≡ calls ++ map (call_at d.line) (calls_in_marks (marks_in (shapes_under more_names ys) ts))) where
  pub clause_whole : (query : Option ClauseEntry) (mid : List ClauseEntry) → IsKept us es query calls old used T
      → (IsUnder T w names used → (clause_fault T w ≡ None)
      × IsJudged T w d.parts.items (body_of (term_with T w)) (suc (suc T.numbers)) (suc (alternatives_of (body_of (term_with T w)))) j)
      → (IsUnder T w names used → (j.head < length d.parts.items)
      × (node_term (shapes_under (names_with T w) d.parts.items) j.head ≡ head_of (term_with T w)))
      → (IsReady T w (body_of (term_with T w)) (suc (suc T.numbers)) (suc (alternatives_of (body_of (term_with T w)))) names us d j
      (Some j.head) used.disjunctions
      → IsMade T w (body_of (term_with T w)) (suc (suc T.numbers)) more_names us vs d j (Some j.head) m)
      → mid ≡ es ++ m.entry ∷ [] → gs ≡ mid ++ m.alternatives.items
      → (clause_fault T w ≡ None) × IsKept vs gs query more more_names m.used (with_clause T w d.line)
  clause_whole query mid keep judge side make first rest =
      let ps : Parts = body_of (term_with T w) in
      let c : ℕ = suc (suc T.numbers) in
      let k : ℕ = suc (alternatives_of ps) in
      let under = under_is d xs same n rooted w one old names noted T used keep.all_names keep.all_nodes keep.all_numbers keep.all_disjunctions in
      let judged = judge under in
      let head = side under in
      let ready = ready_is d xs same n rooted w one old names noted T ps c k us used j (Some j.head) room longer under judged.1 (head.0, head.1, refl) in
      let made = make ready in
      let nodes : m.used.nodes ≡ T.nodes + nodes_with T w ps = ap (λ (u : Used). u.nodes) made.used ∙ judged.1.nodes in
      let numbers : m.used.numbers ≡ T.numbers + k = ap (λ (u : Used). u.numbers) made.used ∙ judged.1.numbers in
      let disjunctions : m.used.disjunctions ≡ T.disjunctions + disjunctions_of ps = ap (λ (u : Used). u.disjunctions) made.used ∙ judged.1.disjunctions in
      let lifted = subst (λ q. AreLifted vs (m.entry ∷ m.alternatives.items) (lifted_clause q ∷ clauses_of_items q q.body))
      (clause_is T w d.parts.items j.head ps d.line head.1 refl) (made.lifted (suc T.numbers)) in (
        judged.0,
        clause_kept us vs es (m.entry ∷ m.alternatives.items) gs calls more old more_names used m.used T w d.line ps k made.names_are made.grown nodes
            numbers disjunctions (omega (arith, nodes, judged.1.nodes, judged.1.few_nodes)) (omega (arith, numbers, judged.1.numbers, judged.1.few_clauses))
            (count_few T w ps c k names us d j (Some j.head) used.disjunctions ready) (entries_are es mid gs m.alternatives.items m.entry first rest)
            query refl refl lifted
            (calls_same d ys T w ps ps c d.line more_names ts j.tokens.items calls more parts one made.names_are (tokens ∙ made.tokens)
            judged.1.marks refl added)
            keep,
      )

  pub query_whole : IsKept us es None calls old used T
      → (IsUnder T w names used → T.asked ≡ None → (query_fault T w ≡ None)
      × IsJudged T w d.parts.items (asked_of (term_with T w)) (suc T.numbers) (alternatives_of (asked_of (term_with T w))) j)
      → (IsReady T w (asked_of (term_with T w)) (suc T.numbers) (alternatives_of (asked_of (term_with T w))) names us d j None used.disjunctions
      → IsMade T w (asked_of (term_with T w)) (suc T.numbers) more_names us vs d j None m)
      → gs ≡ es ++ m.alternatives.items
      → (query_fault T w ≡ None) × IsKept vs gs (Some m.entry) more more_names m.used (with_query T w d.line)
  query_whole keep judge make rest =
      let ps : Parts = asked_of (term_with T w) in
      let c : ℕ = suc T.numbers in
      let k : ℕ = alternatives_of ps in
      let under = under_is d xs same n rooted w one old names noted T used keep.all_names keep.all_nodes keep.all_numbers keep.all_disjunctions in
      let judged = judge under (unasked_table us T.asked (length T.later) keep.asked) in
      let ready = ready_is d xs same n rooted w one old names noted T ps c k us used j None room longer under judged.1 refl in
      let made = make ready in
      let nodes : m.used.nodes ≡ T.nodes + nodes_with T w ps = ap (λ (u : Used). u.nodes) made.used ∙ judged.1.nodes in
      let numbers : m.used.numbers ≡ T.numbers + k = ap (λ (u : Used). u.numbers) made.used ∙ judged.1.numbers in
      let disjunctions : m.used.disjunctions ≡ T.disjunctions + disjunctions_of ps = ap (λ (u : Used). u.disjunctions) made.used ∙ judged.1.disjunctions in
      let lifted = subst (λ q. AreLifted vs (m.entry ∷ m.alternatives.items) (lifted_clause q ∷ clauses_of_items q q.body))
      (query_is T w d.parts.items ps d.line refl) (made.lifted 0) in (
        judged.0,
        query_kept us vs es m.alternatives.items gs calls more old more_names used m.used T w d.line ps k made.names_are made.grown nodes numbers
            disjunctions (omega (arith, nodes, judged.1.nodes, judged.1.few_nodes)) (omega (arith, numbers, judged.1.numbers, judged.1.few_clauses))
            (count_few T w ps c k names us d j None used.disjunctions ready) rest m.entry refl refl (made.asked refl) lifted
            (calls_same d ys T w ps ps c d.line more_names ts j.tokens.items calls more parts one made.names_are (tokens ∙ made.tokens)
            judged.1.marks refl added)
            keep,
      )

-- ---- Without a table in hand: that of these names and sizes alone.
abbrev pub first_table : List Bytes → Used → Table
first_table old used = sized_table empty old used

module _ (d : ClauseDraft) (xs : List DraftPart) (same : xs ≡ d.parts.items) (n : ℕ) (rooted : d.finished.items ≡ n ∷ []) (w : Written)
    (one : (draft_of d).finished ≡ w ∷ []) (old names : List Bytes) (noted : names ≡ named old (written_at (part_shapes xs) n)) (used : Used) where
  pub first_under : IsUnder (first_table old used) w names used
  first_under = under_is d xs same n rooted w one old names noted (first_table old used) used refl refl refl refl

-- the names of what was made are few
pub few_made : (T : Table) (w : Written) (ps : Parts) (c n : ℕ) (names : List Bytes) (us vs : List Shape) (d : ClauseDraft) (j : Judged)
    (head : Option ℕ) (first : ℕ)
    (more : List Bytes) (m : Made) → IsReady T w ps c n names us d j head first → IsMade T w ps c more us vs d j head m → length more < 4294967296
few_made T w ps c n names us vs d j head first more m ready made =
    omega (
      arith,
      ap length made.names_are,
      disjunctions-le T.disjunctions (disjunctions_of ps) (names_with T w),
      ap length ready.names_are,
      ready.few_names,
      ready.judged.nodes,
      ready.judged.few_nodes,
      count_few T w ps c n names us d j head first ready,
    )
