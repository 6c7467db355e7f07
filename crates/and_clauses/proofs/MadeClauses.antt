-- What was judged of a draft is made into clauses.
use Rattle.std.proofs.Common.{ℕ, zero, suc, ◌+◌, ◌*◌, ◌≡◌, ◌<◌, ◌≤◌, Bool, true, false, cond, List, [], ◌∷◌, ◌++◌, length, map, Option, Some, None}
use Rattle.std.proofs.Common.{refl, ap, sym, ◌∙◌, arith, subst}
use Rattle.std.specs.Prelude.{All, IfSome}
use Rattle.std.proofs.lemmas.List.{length-map, length-append}
use Rattle.std.proofs.lemmas.List.Elements.{All-nil, All-cons}
use Rattle.and_model.specs.Lines.{Bytes}
use Rattle.and_model.specs.Terms
use Rattle.and_model.specs.Terms.{Term}
use Rattle.and_model.specs.declared.numbers.NameNo.{NameNo}
use Rattle.and_source.specs.Source.{SourceItems, Alternatives, disjunctions_in_items, numbers_from, HasOwnSourceVariables, SourceClause}
use Rattle.and_syntax.specs.Written.{Written, nodes_of, has, place, including, met_after}
use Rattle.and_syntax.specs.Clauses
use Rattle.and_syntax.specs.Clauses.{disjunctions_of, numbered, head_of}
use Rattle.and_syntax.specs.Tables.{Table, disjunction_name, with_disjunctions, names_with, term_with, all_names_with, items_with, nodes_with, lifted_nodes}
use Rattle.and_syntax.specs.Tables.{clause_of}
use Rattle.and_syntax.proofs.OwnVariables.{place-below, clause_own, query_own}
use Rattle.and_syntax.proofs.Numbering.{items_names}
use Rattle.and_program.specs.Skeletons.{Shape, variable, number, compound}
use Rattle.and_program.specs.Kept.{AllWithin}
use Rattle.and_drafts.specs.Parts.{part_shapes, PartsFall, AllNarrow}
use Rattle.and_drafts.specs.Numbered.{met_by}
use Rattle.and_judging.specs.Sorted as sorted
use Rattle.and_judging.specs.Sorted.{local_of, locals_of, locals_size, pieces_of, outlines_of}
use Rattle.and_judging.specs.Sorts.{shapes_under, local_in, locals_in, outlines_in, AreNarrow, AreOutlinesThere}
use Rattle.and_judging.specs.Outlined.{Named, named_of, named_in, size_of, outlines_size}
use Rattle.and_clauses.specs.Copies.{named_by}
use Rattle.and_judging.specs.Places.{places_from, places_in}
use Rattle.and_clauses.specs.Lifts.{AllNamed, names_under, nodes_under, named_under, IsLifting, HaveRoom, head_term, head_size}
use Rattle.and_clauses.specs.Lifts.{clause_under}
use Rattle.and_clauses.specs.Lifts.{AreOutlines, AreLifted}
use Rattle.and_clauses.specs.Copied.{Grown}
use Rattle.and_source.specs.Lifted.{lifted_clause, clauses_of_items}
use Rattle.and_clauses.specs.declared.making.Made.{Made}
use Rattle.and_clauses.proofs.LiftSteps.{grown_more}
use Rattle.and_clauses.specs.Makes.{AreSides, IsReady, IsMade, clause_judged}
use Rattle.and_drafts.specs.declared.draft.ClauseDraft.{ClauseDraft}
use Rattle.and_drafts.specs.declared.draft.DraftPart.{DraftPart}
use Rattle.and_judging.specs.declared.judging.Judged.{Judged}
use Rattle.and_clauses.specs.declared.lifting.Lifting.{Lifting}
use Rattle.and_judging.specs.declared.sorting.Disjunction.{Disjunction}
use Rattle.and_judging.specs.declared.sorting.Outline.{Outline}
use Rattle.and_drafts.proofs.Telling.{all_fall}
use Rattle.and_judging.proofs.Outlining.{stand-all, whole_size}
use Rattle.and_judging.proofs.Sizes.{parts_size, numbered_size, clause_size, query_size, written_size}
use Rattle.and_judging.proofs.Sizing.{same_locals, locals_narrow, narrow_more, locals_size_is}
use Rattle.and_judging.proofs.Rooted.{met_is}
use Rattle.and_clauses.proofs.SameNames.{same_shapes}
use Rattle.and_judging.proofs.LiftedNames.{AreThere, has-included, disjunctions-le}
use Rattle.and_clauses.proofs.Under.{all_named, named_with, has_disjunctions}
use Rattle.and_clauses.proofs.Placing.{numbers-length}

-- ---- The numbers of the names of disjunctions.
places_map : (names : List Bytes) (d n : ℕ) → places_from names d n ≡ map (λ k. place (disjunction_name k) names) (numbers_from d n)
places_map names d zero = refl
places_map names d (suc n) = ap (λ ks. place (disjunction_name d) names ∷ ks) (places_map names (suc d) n)

there_all : (d n : ℕ) (names : List Bytes) → AreThere (with_disjunctions d n names) d n
there_all d zero names = tt
there_all d (suc n) names =
    let more : List Bytes = including names (disjunction_name d) in
    (has_disjunctions (disjunction_name d) (suc d) n more (has-included names (disjunction_name d)), there_all (suc d) n more)

within_places : (names : List Bytes) (d n : ℕ) (ns : List NameNo) → AreThere names d n → places_in ns ≡ places_from names d n
    → All (λ (k : NameNo). k.0 < length names) ns
within_places names d zero [] a e = All-nil (λ (k : NameNo). k.0 < length names)
within_places names d zero (k ∷ ns) a e = absurd (omega (arith, ap length e))
within_places names d (suc n) [] a e = absurd (omega (arith, ap length e))
within_places names d (suc n) (k ∷ ns) a e =
    let is : k.0 ≡ place (disjunction_name d) names = cc in
    let rest : places_in ns ≡ places_from names (suc d) n = cc in
    All-cons (λ (j : NameNo). j.0 < length names) k ns (omega (arith, is, place-below (disjunction_name d) names a.0))
    (within_places names (suc d) n ns a.1 rest)

places_length : (names : List Bytes) (d n : ℕ) → length (places_from names d n) ≡ n
places_length names d zero = refl
places_length names d (suc n) = ap suc (places_length names (suc d) n)

-- disjunctions with their numbers
named_same : (ds : List Disjunction) (ns : List NameNo) (al : List (ℕ × Alternatives)) → locals_in ds ≡ map (λ (a : ℕ × Alternatives). local_of a.1) al
    → places_in ns ≡ map (λ (a : ℕ × Alternatives). a.0) al → named_by ds ns ≡ map named_of al
named_same [] ns [] e f = refl
named_same [] ns (a ∷ al) e f = absurd (omega (arith, ap length e))
named_same (d ∷ ds) ns [] e f = absurd (omega (arith, ap length e))
named_same (d ∷ ds) [] (a ∷ al) e f = absurd (omega (arith, ap length f))
named_same (d ∷ ds) (n ∷ ns) (a ∷ al) e f =
    let l : local_in d ≡ local_of a.1 = cc in
    let ls : locals_in ds ≡ map (λ (b : ℕ × Alternatives). local_of b.1) al = cc in
    let k : n.0 ≡ a.0 = cc in
    let ks : places_in ns ≡ map (λ (b : ℕ × Alternatives). b.0) al = cc in
    let made : ℕ → sorted.Local → Named = λ m x. record { name = m; variables = x.variables } in
    ap (λ m. made m (local_in d) ∷ named_by ds ns) k ∙ ap (λ x. made a.0 x ∷ named_by ds ns) l ∙ ap (λ xs. named_of a ∷ xs) (named_same ds ns al ls ks)

-- more names
including-ge : (names : List Bytes) (x : Bytes) → length names ≤ length (including names x)
including-ge names x = by (has x names)
  where
    by : (b : Bool) → length names ≤ length (cond b names (names ++ x ∷ []))
    by true = omega arith
    by false = omega (arith, length-append names (x ∷ []))

disjunctions-ge : (d n : ℕ) (names : List Bytes) → length names ≤ length (with_disjunctions d n names)
disjunctions-ge d zero names = omega arith
disjunctions-ge d (suc n) names = omega (arith, including-ge names (disjunction_name d), disjunctions-ge (suc d) n (including names (disjunction_name d)))

pub within_more : (m n : ℕ) (us : List Shape) → m ≤ n → AllWithin m us → AllWithin n us
within_more m n [] le a = tt
within_more m n (variable k ∷ us) le a = (a.0, within_more m n us le a.1)
within_more m n (number z ∷ us) le a = (tt, within_more m n us le a.1)
within_more m n (compound c ks ∷ us) le a = ((omega (arith, a.0.0), a.0.1), within_more m n us le a.1)

-- ---- What is lifted by, and the outlines.
module _ (T : Table) (w : Written) (ps : Clauses.Parts) (c n : ℕ) (names : List Bytes) (us : List Shape) (d : ClauseDraft) (j : Judged) (head : Option ℕ)
    (first : ℕ) (r : IsReady T w ps c n names us d j head first) where
  abbrev numbers_by : ℕ → ℕ
  numbers_by k = place (disjunction_name k) (all_names_with T w ps)

  abbrev items : SourceItems
  items = items_with T w c ps

  abbrev ds : List Disjunction
  ds = j.sorted.disjunctions.items

  locals_are : locals_in ds ≡ locals_of items
  locals_are = (r.judged.sorted numbers_by).0

  names_are : map (λ (a : ℕ × Alternatives). a.0) (disjunctions_in_items items) ≡ map numbers_by (numbers_from T.disjunctions (disjunctions_of ps))
  names_are = items_names numbers_by c T.disjunctions ps

  pub count_is : length ds ≡ disjunctions_of ps
  count_is =
      sym (length-map ds local_in) ∙ ap length locals_are ∙ length-map (disjunctions_in_items items) (λ (a : ℕ × Alternatives). local_of a.1)
      ∙ sym (length-map (disjunctions_in_items items) (λ (a : ℕ × Alternatives). a.0)) ∙ ap length names_are
      ∙ length-map (numbers_from T.disjunctions (disjunctions_of ps)) numbers_by ∙ numbers-length T.disjunctions (disjunctions_of ps)

  -- the disjunctions are no more than the nodes
  locals-size : (ls : List sorted.Local) → length ls ≤ locals_size ls
  locals-size [] = omega arith
  locals-size (l ∷ ls) =
      let some : 1 ≤ suc l.count * suc (length l.variables) = grind arith in omega (arith, some, locals-size ls)

  same_nodes : lifted_nodes (disjunctions_in_items items) ≡ lifted_nodes (disjunctions_in_items (items_with T w 0 ps))
  same_nodes =
      sym (locals_size_is (disjunctions_in_items items)) ∙ ap locals_size (same_locals numbers_by numbers_by c T.disjunctions 0 T.disjunctions ps)
      ∙ locals_size_is (disjunctions_in_items (items_with T w 0 ps))

  pub count_few : disjunctions_of ps ≤ lifted_nodes (disjunctions_in_items (items_with T w 0 ps))
  count_few =
      omega (
        arith,
        locals-size (locals_of items),
        locals_size_is (disjunctions_in_items items),
        same_nodes,
        count_is,
        ap length locals_are,
        length-map ds local_in,
      )

  pub few_names : length names + length ds < 4294967296
  few_names = omega (arith, r.few_names, r.judged.nodes, r.judged.few_nodes, count_is, count_few)

  pub few_numbers : first + length ds < 18446744073709551616
  few_numbers = omega (arith, r.first_is, r.few_disjunctions, r.judged.nodes, r.judged.few_nodes, count_is, count_few)

  module _ (more : List Bytes) (ns : List NameNo) (noted : more ≡ with_disjunctions first (length ds) names)
      (placed : places_in ns ≡ places_from more first (length ds)) where
    pub all_names : more ≡ all_names_with T w ps
    all_names =
        noted ∙ ap (λ k. with_disjunctions k (length ds) names) r.first_is ∙ ap (λ k. with_disjunctions T.disjunctions k names) count_is
        ∙ ap (with_disjunctions T.disjunctions (disjunctions_of ps)) r.names_are

    ns-length : length ns ≡ length ds
    ns-length = sym (length-map ns (λ (k : NameNo). k.0)) ∙ ap length placed ∙ places_length more first (length ds)

    named_is : named_by ds ns ≡ named_in items
    named_is =
        named_same ds ns (disjunctions_in_items items) locals_are
        (placed ∙ places_map more first (length ds) ∙ ap (λ xs. map (λ k. place (disjunction_name k) xs) (numbers_from first (length ds))) all_names
        ∙ ap (λ k. map numbers_by (numbers_from k (length ds))) r.first_is ∙ ap (λ k. map numbers_by (numbers_from T.disjunctions k)) count_is ∙ sym names_are)

    shapes_are : shapes_under more d.parts.items ≡ shapes_under (names_with T w) d.parts.items
    shapes_are = ap (λ xs. shapes_under xs d.parts.items) all_names ∙ same_shapes T w ps d r.one

    module _ (l : Lifting) (names_is : names_under l ≡ more) (parts_is : l.parts.now ≡ d.parts.items) (ds_is : l.disjunctions.now ≡ ds)
        (ns_is : l.numbers.now ≡ ns) (line : ℕ) where
      nodes_are : nodes_under l ≡ shapes_under (names_with T w) d.parts.items
      nodes_are = ap (λ xs. shapes_under xs l.parts.now) names_is ∙ ap (shapes_under more) parts_is ∙ shapes_are

      variables_are : met_by [] (part_shapes l.parts.now) ≡ met_after [] w
      variables_are = ap (λ xs. met_by [] (part_shapes xs)) parts_is ∙ met_is d w r.one

      -- the clause that is made
      abbrev judged_clause : SourceClause
      judged_clause = clause_of 0 w line (head_term (shapes_under (names_with T w) d.parts.items) head) items

      pub clause_is : (m : ℕ) → record (clause_under l head line items) { number = m } ≡ record judged_clause { number = m }
      clause_is m =
          let made : Term → List Bytes → SourceClause =
          λ t xs. record { number = m; head = t; body = items; variables = length xs; written = xs; line = line } in
          ap (λ ss. made (head_term ss head) (met_by [] (part_shapes l.parts.now))) nodes_are
          ∙ ap (made (head_term (shapes_under (names_with T w) d.parts.items) head)) variables_are

      by_sides : (h : Option ℕ) → AreSides T w d.parts.items h ps
          → HasOwnSourceVariables (clause_of 0 w line (head_term (shapes_under (names_with T w) d.parts.items) h) items)
      by_sides None s =
          subst (λ qs. HasOwnSourceVariables (clause_of 0 w line (Terms.compound 0 Terms.none) (numbered numbers_by c T.disjunctions qs))) (sym s)
          (query_own (names_with T w) numbers_by w 0 line c T.disjunctions)
      by_sides (Some k) s =
          subst (λ t. HasOwnSourceVariables (clause_of 0 w line t items)) (sym s.1)
          (subst (λ qs. HasOwnSourceVariables (clause_of 0 w line (head_of (term_with T w)) (numbered numbers_by c T.disjunctions qs))) (sym s.2)
          (clause_own (names_with T w) numbers_by w 0 line c T.disjunctions))

      judged_own : HasOwnSourceVariables judged_clause
      judged_own = by_sides head r.sides

      pub lifting_made : IsLifting l
      lifting_made = record {
        falls = subst (λ xs. PartsFall 0 (part_shapes xs)) (sym parts_is) (all_fall d);
        narrow = subst (λ xs. AllNarrow (part_shapes xs)) (sym parts_is) d.narrow;
        all_named = subst (λ xs. AllNamed xs (part_shapes l.parts.now)) (sym names_is)
            (subst (λ xs. AllNamed more (part_shapes xs)) (sym parts_is)
            (subst (λ xs. AllNamed xs (part_shapes d.parts.items)) (sym noted)
            (named_with first (length ds) names (part_shapes d.parts.items)
            (subst (λ xs. AllNamed xs (part_shapes d.parts.items)) (sym r.names_are)
            (all_named T.names (part_shapes d.parts.items) d.finished.items w d.formed r.one)))));
        few_names = omega (arith, ap length names_is, ap length noted, disjunctions-le first (length ds) names, few_names);
        numbered = ap length ns_is ∙ ns-length ∙ sym (ap length ds_is);
        within = subst (λ xs. All (λ (k : NameNo). k.0 < length xs) l.numbers.now) (sym names_is)
            (subst (All (λ (k : NameNo). k.0 < length more)) (sym ns_is)
            (within_places more first (length ds) ns
            (subst (λ xs. AreThere xs first (length ds)) (sym noted) (there_all first (length ds) names)) placed));
        few = subst (λ xs. AreNarrow 255 (locals_in xs)) (sym ds_is)
            (subst (AreNarrow 255) (sym locals_are)
            (narrow_more (length (met_after [] w)) 255 (locals_of items) r.judged.few_variables
            (locals_narrow (length (met_after [] w)) items judged_own.1)));
      }

      pub outlines_made : (os : List Outline) → os ≡ j.sorted.outlines.items → AreOutlines l head line os items
      outlines_made os e = record {
        outlines = ap (λ ss. outlines_in ss os) nodes_are ∙ ap (outlines_in (shapes_under (names_with T w) d.parts.items)) e
            ∙ (r.judged.sorted numbers_by).1;
        disjunctions = ap (λ xs. named_by xs l.numbers.now) ds_is ∙ ap (named_by ds) ns_is ∙ named_is;
        there = subst (λ xs. AreOutlinesThere (length l.parts.now) xs) (sym e)
            (subst (λ xs. AreOutlinesThere (length xs) j.sorted.outlines.items) (sym parts_is) r.judged.placed);
        own = subst HasOwnSourceVariables (sym (clause_is 0)) judged_own;
      }

      head_few : (h : Option ℕ) → AreSides T w d.parts.items h ps
          → head_size (shapes_under (names_with T w) d.parts.items) h + parts_size ps ≤ nodes_of w
      head_few None s = omega (arith, ap parts_size s, query_size (term_with T w), written_size (names_with T w) [] w)
      head_few (Some k) s =
          omega (arith, ap size_of s.1, ap parts_size s.2, clause_size (term_with T w), written_size (names_with T w) [] w)

      -- and their nodes are those that were counted
      pub size_few : (os : List Outline) → os ≡ j.sorted.outlines.items
          → head_size (nodes_under l) head + outlines_size (named_under l) (outlines_in (nodes_under l) os) ≤ nodes_with T w ps
      size_few os e =
          let are = outlines_made os e in
          let top : head_size (nodes_under l) head ≡ head_size (shapes_under (names_with T w) d.parts.items) head = ap (λ ss. head_size ss head) nodes_are in
          let all : outlines_size (named_under l) (outlines_in (nodes_under l) os)
          ≡ outlines_size (named_in items) (record { scope = None; pieces = pieces_of 0 items } ∷ outlines_of 0 items) =
          ap (outlines_size (named_under l)) are.outlines
          ∙ ap (λ xs. outlines_size xs (record { scope = None; pieces = pieces_of 0 items } ∷ outlines_of 0 items)) are.disjunctions in
          let whole = whole_size (named_in items) 0 items (stand-all (named_in items)) in
          omega (arith, top, all, whole, numbered_size numbers_by c T.disjunctions ps, same_nodes, head_few head r.sides)

      pub room_made : (os : List Outline) → os ≡ j.sorted.outlines.items
          → HaveRoom (length (names_under l)) us (head_size (nodes_under l) head + outlines_size (named_under l) (outlines_in (nodes_under l) os))
      room_made os e = record {
        falls = r.falls;
        within = within_more (length names) (length (names_under l)) us
            (omega (arith, ap length names_is, ap length noted, disjunctions-ge first (length ds) names)) r.within;
        room = omega (arith, size_few os e, r.few_nodes, r.judged.nodes, r.judged.few_nodes);
      }

      -- What was made.
      pub made_is : (os : List Outline) (vs : List Shape) (m : Made) → os ≡ j.sorted.outlines.items → line ≡ d.line
          → Grown (length (names_under l)) us vs
          (length us + (head_size (nodes_under l) head + outlines_size (named_under l) (outlines_in (nodes_under l) os)))
          → ((k : ℕ) (its : SourceItems) → AreOutlines l head line os its → let q = record (clause_under l head line its) { number = k } in
          AreLifted vs (m.entry ∷ m.alternatives.items) (lifted_clause q ∷ clauses_of_items q its))
          → (head ≡ None → m.entry.head.0 ≡ 0) → m.tokens.items ≡ j.tokens.items → m.used ≡ j.used → IsMade T w ps c more us vs d j head m
      made_is os vs m e at grown lifted asked tokens used = record {
        names_are = all_names;
        grown = subst (λ xs. Grown (length xs) us vs (length us + nodes_with T w ps)) names_is
            (grown_more (length (names_under l)) us vs
            (length us + (head_size (nodes_under l) head + outlines_size (named_under l) (outlines_in (nodes_under l) os))) (length us + nodes_with T w ps)
            (omega (arith, size_few os e)) grown);
        lifted = λ k. subst (λ x. let q = record (clause_judged T w ps c head d.parts.items x) { number = k } in
            AreLifted vs (m.entry ∷ m.alternatives.items) (lifted_clause q ∷ clauses_of_items q q.body)) at
            (subst (λ (q : SourceClause). AreLifted vs (m.entry ∷ m.alternatives.items) (lifted_clause q ∷ clauses_of_items q q.body)) (clause_is k)
            (lifted k items (outlines_made os e)));
        asked = asked;
        tokens = tokens;
        used = used;
      }

-- The parts as they are read.
module _ (parts : List DraftPart) (d : ClauseDraft) (j : Judged) (T : Table) (w : Written) (ps : Clauses.Parts) (c n : ℕ) (names : List Bytes) (us : List Shape)
    (head : Option ℕ) (first : ℕ) (r : IsReady T w ps c n names us d j head first) (is : parts ≡ d.parts.items) where
  pub few_read : length (met_by [] (part_shapes parts)) ≤ 255
  few_read =
      let e : met_by [] (part_shapes parts) ≡ met_after [] w = ap (λ xs. met_by [] (part_shapes xs)) is ∙ met_is d w r.one in
      omega (arith, ap length e, r.judged.few_variables)

  there : (h : Option ℕ) → AreSides T w d.parts.items h ps → IfSome h (λ k. k < length d.parts.items)
  there None s = tt
  there (Some k) s = s.0

  pub head_read : IfSome head (λ k. k < length parts)
  head_read = subst (λ xs. IfSome head (λ k. k < length xs)) (sym is) (there head r.sides)
