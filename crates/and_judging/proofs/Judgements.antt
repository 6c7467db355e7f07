-- How a draft is judged: its sizes, and its body.
use Rattle.std.proofs.Common.{ℕ, suc, ◌+◌, ◌-◌, ◌≡◌, ◌<◌, ◌≤◌, Bool, true, false, cond, leb, List, [], ◌∷◌, length, Option, Some, None, refl, ap, sym}
use Rattle.std.proofs.Common.{◌∙◌, subst}
use Rattle.std.proofs.Common.{arith}
use Rattle.std.proofs.lemmas.Bool.Decides.{nat_tests}
use Rattle.and_model.specs.Lines.{Bytes}
use Rattle.and_source.specs.Source.{disjunctions_in_items}
use Rattle.and_syntax.specs.Written.{Written, nodes_of, met_after}
use Rattle.and_syntax.specs.Clauses.{Parts, numbered}
use Rattle.and_syntax.specs.Tables.{Table, first_of, sizes, names_with, nodes_with, items_with, lifted_nodes, too_big, variables, nodes}
use Rattle.and_syntax.specs.Tables.{clauses}
use Rattle.and_program.specs.Skeletons.{Shape}
use Rattle.and_drafts.specs.Drafts.{draft_of}
use Rattle.and_drafts.specs.Parts.{part_shapes}
use Rattle.and_drafts.specs.Numbered.{met_by}
use Rattle.and_judging.specs.Marks.{marks_in}
use Rattle.and_judging.specs.Bodies.{bare, marks_at, IsBody}
use Rattle.and_judging.specs.Sorted.{locals_of, locals_size}
use Rattle.and_judging.specs.Sorts.{shapes_under, locals_in, outlines_in, AreFew, AreNarrow, IsSorted, TokensThere, AreOutlinesThere}
use Rattle.and_judging.specs.Verdicts.{IsUnder, IsJudged, IsBodyOf}
use Rattle.and_drafts.specs.declared.draft.ClauseDraft.{ClauseDraft}
use Rattle.and_drafts.specs.declared.draft.DraftPart.{DraftPart}
use Rattle.and_judging.specs.declared.body.Body.{Body}
use Rattle.and_judging.specs.declared.body.BodyToken.{BodyToken}
use Rattle.and_judging.specs.declared.sorting.Sorted.{Sorted}
use Rattle.and_judging.specs.declared.judging.Used.{Used}
use Rattle.and_judging.specs.declared.judging.Judged.{Judged}
use Rattle.and_judging.proofs.Sizing.{locals_size_is, same_locals, locals_few, locals_narrow, narrow_more}
use Rattle.and_judging.proofs.Rooted.{size_is, met_is}
use Rattle.and_judging.proofs.SortedWhole.{few-more}
use Rattle.and_judging.proofs.Verdicts.{many_variables, many_nodes, many_clauses, all_few}

-- What the tokens of a body fall into,
abbrev pub SortsIn : List DraftPart → List BodyToken → Sorted → Type 0
SortsIn parts tokens s =
    (names : List Bytes) (name : ℕ → ℕ) (c d : ℕ) (ps : Parts) → marks_in (shapes_under names parts) tokens ≡ marks_at c d ps
    → IsSorted (shapes_under names parts) (numbered name c d ps) s

abbrev pub Sorts : List DraftPart → Body → Sorted → Type 0
Sorts parts b s = SortsIn parts b.tokens.items s

pub sorts_in : (xs ys : List DraftPart) (ts us : List BodyToken) (s : Sorted) → ys ≡ xs → us ≡ ts → SortsIn ys us s → SortsIn xs ts s
sorts_in xs ys ts us s e f h = subst (λ vs. SortsIn xs vs s) f (subst (λ vs. SortsIn vs us s) e h)

-- few alternatives and few variables.
pub sorted_few : (parts : List DraftPart) (b : Body) (s : Sorted) → IsBodyOf parts b → Sorts parts b s → length parts ≤ 4294967296
    → AreFew 4294967296 (locals_in s.disjunctions.items)
sorted_few parts b s is sorts le =
    let here = sorts is.names (λ n. n) is.clause is.disjunction is.body is.is.1 in
    subst (AreFew 4294967296) (sym here.0)
    (few-more (length parts) 4294967296 (locals_of (bare is.clause is.disjunction is.body)) le
    (locals_few (λ n. n) (length parts) is.clause is.disjunction is.body is.few))

pub sorted_narrow : (parts : List DraftPart) (b : Body) (s : Sorted) → IsBodyOf parts b → Sorts parts b s → length (met_by [] (part_shapes parts)) ≤ 255
    → AreNarrow 255 (locals_in s.disjunctions.items)
sorted_narrow parts b s is sorts le =
    let n : ℕ = length (met_by [] (part_shapes parts)) in
    let here = sorts is.names (λ n. n) is.clause is.disjunction is.body is.is.1 in
    subst (AreNarrow 255) (sym here.0)
    (narrow_more n 255 (locals_of (bare is.clause is.disjunction is.body)) le (locals_narrow n (bare is.clause is.disjunction is.body) is.own))

-- ---- The verdict on sizes.
module _ (d : ClauseDraft) (used : Used) (b : Body) (T : Table) (w : Written) (ps : Parts) (c n : ℕ) (under : IsUnder T w (names_with T w) used)
    (one : (draft_of d).finished ≡ w ∷ []) (body : IsBody (shapes_under (names_with T w) d.parts.items) c T.disjunctions ps (Some b))
    (next : b.next_clause ≡ suc (T.numbers + n)) where
  abbrev lifted : ℕ
  lifted = lifted_nodes (disjunctions_in_items (items_with T w 0 ps))

  pub over_variables : (m : ℕ) → m ≡ length (met_by [] (part_shapes d.parts.items)) → 255 < m → first_of (sizes T w ps n) ≡ Some (too_big variables)
  over_variables m e lt =
      let same : length (met_by [] (part_shapes d.parts.items)) ≡ length (met_after [] w) = ap length (met_is d w one) in
      many_variables T w ps n (omega (arith, lt, e, same))

  few_met : (m : ℕ) → m ≡ length (met_by [] (part_shapes d.parts.items)) → m ≤ 255 → length (met_after [] w) ≤ 255
  few_met m e le =
      let same : length (met_by [] (part_shapes d.parts.items)) ≡ length (met_after [] w) = ap length (met_is d w one) in
      omega (arith, le, e, same)

  -- the parts alone are too many
  pub over_parts : (m : ℕ) → m ≡ length (met_by [] (part_shapes d.parts.items)) → m ≤ 255 → used.nodes ≤ 524288 → 524288 - used.nodes < length d.parts.items
      → first_of (sizes T w ps n) ≡ Some (too_big nodes)
  over_parts m e le few lt =
      let size : length d.parts.items ≡ nodes_of w = size_is d w one in
      many_nodes T w ps n (few_met m e le) (omega (arith, few, lt, size, under.nodes))

  module _ (s : Sorted) (sorts : Sorts d.parts.items b s) where
    size_same : locals_size (locals_in s.disjunctions.items) ≡ lifted_nodes (disjunctions_in_items (items_with T w 0 ps))
    size_same =
        let name : ℕ → ℕ = λ k. k in
        ap locals_size ((sorts (names_with T w) name c T.disjunctions ps body.1).0 ∙ same_locals name _ c T.disjunctions 0 T.disjunctions ps)
        ∙ locals_size_is (disjunctions_in_items (items_with T w 0 ps))

    some_fits : (k room : ℕ) (o : Option ℕ) → o ≡ cond (leb k room) (Some k) None → (m : ℕ) → o ≡ Some m → (m ≡ k) × (k ≤ room)
    some_fits k room o e m f = by (leb k room) refl (sym e ∙ f)
      where
        by : (v : Bool) → leb k room ≡ v → cond v (Some k) None ≡ Some m → (m ≡ k) × (k ≤ room)
        by true h g = (let same : m ≡ k = cc in same, grind (arith, nat_tests))
        by false h g = absurd cc

    none_fits : (k room : ℕ) (o : Option ℕ) → o ≡ cond (leb k room) (Some k) None → o ≡ None → room < k
    none_fits k room o e f = by (leb k room) refl (sym e ∙ f)
      where
        by : (v : Bool) → leb k room ≡ v → cond v (Some k) None ≡ None → room < k
        by true h g = absurd cc
        by false h g = grind (arith, nat_tests)

    -- those with the calls and heads of disjunctions are
    pub over_nodes : (m room : ℕ) (o : Option ℕ) → m ≡ length (met_by [] (part_shapes d.parts.items)) → m ≤ 255 → used.nodes ≤ 524288
        → length d.parts.items ≤ 524288 - used.nodes → room ≡ 524288 - used.nodes - length d.parts.items
        → o ≡ cond (leb (locals_size (locals_in s.disjunctions.items)) room) (Some (locals_size (locals_in s.disjunctions.items))) None → o ≡ None
        → first_of (sizes T w ps n) ≡ Some (too_big nodes)
    over_nodes m room o e le few within left is none =
        let k : ℕ = locals_size (locals_in s.disjunctions.items) in
        let size : length d.parts.items ≡ nodes_of w = size_is d w one in
        let lt : room < k = none_fits k room o is none in
        many_nodes T w ps n (few_met m e le) (omega (arith, few, within, left, lt, size, size_same, under.nodes))

    -- All nodes are within the limit,
    all_nodes : (m room : ℕ) (o : Option ℕ) (more : ℕ) → used.nodes ≤ 524288
        → length d.parts.items ≤ 524288 - used.nodes → room ≡ 524288 - used.nodes - length d.parts.items
        → o ≡ cond (leb (locals_size (locals_in s.disjunctions.items)) room) (Some (locals_size (locals_in s.disjunctions.items))) None → o ≡ Some more
        → (used.nodes + (length d.parts.items + more) ≡ T.nodes + nodes_with T w ps) × (T.nodes + nodes_with T w ps ≤ 524288)
    all_nodes m room o more few within left is some =
        let k : ℕ = locals_size (locals_in s.disjunctions.items) in
        let size : length d.parts.items ≡ nodes_of w = size_is d w one in
        let fits = some_fits k room o is more some in
        (omega (arith, size, size_same, under.nodes, fits.0), omega (arith, few, within, left, size, size_same, under.nodes, fits.1))

    -- and the numbers are not,
    pub over_clauses : (m room : ℕ) (o : Option ℕ) (more : ℕ) → m ≡ length (met_by [] (part_shapes d.parts.items)) → m ≤ 255 → used.nodes ≤ 524288
        → length d.parts.items ≤ 524288 - used.nodes → room ≡ 524288 - used.nodes - length d.parts.items
        → o ≡ cond (leb (locals_size (locals_in s.disjunctions.items)) room) (Some (locals_size (locals_in s.disjunctions.items))) None → o ≡ Some more
        → 65536 < b.next_clause → first_of (sizes T w ps n) ≡ Some (too_big clauses)
    over_clauses m room o more e le few within left is some lt =
        many_clauses T w ps n (few_met m e le) (all_nodes m room o more few within left is some).1 (omega (arith, lt, next))

    -- or they are too.
    pub all_judged : (m room : ℕ) (o : Option ℕ) (more : ℕ) (j : Judged) → m ≡ length (met_by [] (part_shapes d.parts.items)) → m ≤ 255 → used.nodes ≤ 524288
        → length d.parts.items ≤ 524288 - used.nodes → room ≡ 524288 - used.nodes - length d.parts.items
        → o ≡ cond (leb (locals_size (locals_in s.disjunctions.items)) room) (Some (locals_size (locals_in s.disjunctions.items))) None → o ≡ Some more
        → b.next_clause ≤ 65536 → TokensThere (length d.parts.items) b.tokens.items
        → AreOutlinesThere (length d.parts.items) s.outlines.items
        → j.tokens.items ≡ b.tokens.items → j.sorted.disjunctions.items ≡ s.disjunctions.items → j.sorted.outlines.items ≡ s.outlines.items
        → j.used ≡ record { nodes = used.nodes + (length d.parts.items + more); numbers = b.next_clause - 1; disjunctions = b.next_disjunction }
        → (first_of (sizes T w ps n) ≡ None) × IsJudged T w d.parts.items ps c n j
    all_judged m room o more j e le few within left is some least there placed tokens disjunctions outlines so_much =
        let ss : List Shape = shapes_under (names_with T w) d.parts.items in
        let met : length (met_after [] w) ≤ 255 = few_met m e le in
        let all = all_nodes m room o more few within left is some in
        let numbers : b.next_clause - 1 ≡ T.numbers + n = omega (arith, next) in
        let nodes : j.used.nodes ≡ T.nodes + nodes_with T w ps = ap (λ (u : Used). u.nodes) so_much ∙ all.0 in
        let counted : j.used.numbers ≡ T.numbers + n = ap (λ (u : Used). u.numbers) so_much ∙ numbers in (
          all_few T w ps n met all.1 (omega (arith, least, next)),
          record {
            marks = ap (marks_in ss) tokens ∙ body.1;
            there = subst (TokensThere (length d.parts.items)) (sym tokens) there;
            sorted = λ name. let is_sorted = sorts (names_with T w) name c T.disjunctions ps body.1 in
                (ap locals_in disjunctions ∙ is_sorted.0, ap (λ os. outlines_in ss os) outlines ∙ is_sorted.1);
            placed = subst (AreOutlinesThere (length d.parts.items)) (sym outlines) placed;
            nodes = nodes;
            numbers = counted;
            disjunctions = ap (λ (u : Used). u.disjunctions) so_much ∙ body.3;
            few_variables = met;
            few_nodes = omega (arith, nodes, all.1);
            few_clauses = omega (arith, counted, least, next);
          },
        )
