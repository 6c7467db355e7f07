-- The clauses of alternatives are lifted one by one.
use Rattle.std.proofs.Common.{ℕ, zero, suc, ◌+◌, ◌≡◌, ◌<◌, ◌≤◌, List, [], ◌∷◌, ◌++◌, length, get_or, map, take, drop, Option, Some, None, refl, ap, sym, ◌∙◌}
use Rattle.std.proofs.Common.{arith}
use Rattle.std.proofs.Common.{subst, All, inl, inr}
use Rattle.std.specs.Prelude.{flat_map, Result, Ok, Err, IfOk, OnOk}
use Rattle.std.proofs.lemmas.List.{length-map, map_push, drop_more, take_more, take_all, map_more, length-take-le, get_or_default}
use Rattle.std.proofs.lemmas.List.Elements.{All-head, All-tail, All-weaker}
use Rattle.and_model.specs.Lines.{Bytes}
use Rattle.and_model.specs.Terms
use Rattle.and_model.specs.Terms.{Path, Term, variables_in, apply_all}
use Rattle.and_model.specs.Programs.{Clause, Item}
use Rattle.and_model.specs.OwnVariables.{AreOwn, IsOwn, HasOwnVariables, terms_of_item}
use Rattle.and_model.proofs.OwnVariables.{more_own}
use Rattle.and_source.specs.Source.{SourceClause, no_items, numbers_from}
use Rattle.and_program.specs.Skeletons
use Rattle.and_program.specs.Skeletons.{Shape, compound, node_term, term_list, item_of, AllThere}
use Rattle.and_program.specs.Items.{node_item}
use Rattle.and_program.specs.Kept.{IsEntry, AllEntries}
use Rattle.and_program.specs.Nodes.{shape_of, shapes_of, entry_clause}
use Rattle.and_program.specs.declared.node.Node.{Node}
use Rattle.and_program.specs.declared.entry.ClauseEntry.{ClauseEntry}
use Rattle.and_program.specs.declared.item.ItemNode.{ItemNode}
use Rattle.and_model.specs.declared.numbers.NameNo.{NameNo}
use Rattle.and_model.specs.declared.numbers.NodeNo.{NodeNo}
use Rattle.and_judging.specs.Sorts.{own, locals_in, outline_in, outlines_in, AreNarrow}
use Rattle.and_judging.specs.Outlined.{Named, named_at, call_of, head_of, numbering_by, pieces_items, outline_clause, clause_in, outline_size, outlines_size}
use Rattle.and_clauses.specs.Copied.{Grown}
use Rattle.and_clauses.specs.Copies.{named_by, numbers_in, IsNode, IsPut}
use Rattle.and_source.specs.Lifted.{Numbering, renumbered, as_terms, numbered_variables}
use Rattle.and_clauses.specs.Lifts.{HaveRoom, ArePiecesThere, IsScope, AreAlternatives, HaveOwn, AreLifted}
use Rattle.and_judging.specs.declared.sorting.Disjunction.{Disjunction}
use Rattle.and_judging.specs.declared.sorting.Outline.{Outline}
use Rattle.and_clauses.proofs.CopySteps.{grown_again}
use Rattle.and_clauses.proofs.Placing.{begins_all, begins_self, as_variables, IsRow, row_put, row_named, row_taken, called_row, head_row}
use Rattle.and_clauses.proofs.Placing.{numbers_last, numbers-length}
use Rattle.and_clauses.proofs.LiftSteps.{grown_more}
use Rattle.and_judging.proofs.Altering.{variables_few}
use Rattle.and_clauses.proofs.Keeping.{entries_front, are_entries_front, entries_append}

-- a disjunction with the number of its name
pub variables_at : (ds : List Disjunction) (ns : List NameNo) (n : ℕ) (d : Disjunction) → n < length ds → length ns ≡ length ds → d ≡ get_or ds n d
    → (named_at (named_by ds ns) n).variables ≡ own d.variables.items
variables_at [] ns n d lt e at = absurd (omega arith)
variables_at (x ∷ ds) [] n d lt e at = absurd (omega (arith, e))
variables_at (x ∷ ds) (y ∷ ns) zero d lt e at = ap (λ (z : Disjunction). own z.variables.items) (sym at)
variables_at (x ∷ ds) (y ∷ ns) (suc n) d lt e at = variables_at ds ns n d (omega arith) (omega (arith, e)) at

pub name_at : (ds : List Disjunction) (ns : List NameNo) (n : ℕ) (k : NameNo) → n < length ds → length ns ≡ length ds
    → (named_at (named_by ds ns) n).name ≡ (get_or ns n k).0
name_at [] ns n k lt e = absurd (omega arith)
name_at (x ∷ ds) [] n k lt e = absurd (omega (arith, e))
name_at (x ∷ ds) (y ∷ ns) zero k lt e = refl
name_at (x ∷ ds) (y ∷ ns) (suc n) k lt e = name_at ds ns n k (omega arith) (omega (arith, e))

-- it has as many
pub count_at : (ds : List Disjunction) (ns : List NameNo) (n : ℕ) (d : Disjunction) → n < length ds → length ns ≡ length ds → d ≡ get_or ds n d
    → length (named_at (named_by ds ns) n).variables ≡ length d.variables.items
count_at ds ns n d lt e at =
    ap length (variables_at ds ns n d lt e at) ∙ length-map d.variables.items (λ j. let v : Path × ℕ = ([], j) in v)

-- so it is of what is read of a list
module _ (ds : List Disjunction) (n : ℕ) (d : Disjunction) (lt : n < length ds) where
  abbrev read : Disjunction
  read = get_or ds n d

  read_is : read ≡ get_or ds n read
  read_is = get_or_default ds n d read lt

  pub few_read : AreNarrow 255 (locals_in ds) → length read.variables.items ≤ 255
  few_read few = variables_few 255 ds n read lt read_is few

  pub variables_read : (ns : List NameNo) → length ns ≡ length ds → (named_at (named_by ds ns) n).variables ≡ own read.variables.items
  variables_read ns e = variables_at ds ns n read lt e read_is

  pub count_read : (ns : List NameNo) → length ns ≡ length ds → length (named_at (named_by ds ns) n).variables ≡ length read.variables.items
  count_read ns e = count_at ds ns n read lt e read_is

-- The call or the head of a disjunction: a row of variables and its name.
pub row_end : {E : Type 0} (r : Result NodeNo E) (m : ℕ) (old us vs : List Shape) (most c : ℕ) (args ks : List ℕ) (t : Term)
    → IsRow m old us most args ks → c < m → length ks ≤ 255 → length us + 1 ≤ most → t ≡ Terms.compound c (term_list (as_variables ks))
    → IfOk r (λ n. IsPut us vs (compound c args) n.0)
    → OnOk r (Grown m old vs most) × IfOk r (λ n. IsNode vs n.0 t)
row_end (Ok n) m old us vs most c args ks t row named few room is (inl put) =
    let done = row_named m old us vs most c args ks row put.0 named few room in
    (done.0, (omega (arith, put.1, done.1.0), ap (node_term vs) put.1 ∙ done.1.1 ∙ sym is))
row_end (Ok n) m old us vs most c args ks t row named few room is (inr found) =
    let there = row_taken m old us most c args ks n.0 row found.1 in
    (subst (λ xs. Grown m old xs most) (sym found.0) row.grown, subst (λ xs. IsNode xs n.0 t) (sym found.0) (there.0, there.1 ∙ sym is))
row_end (Err e) m old us vs most c args ks t row named few room is put = (tt, tt)

-- ---- A row of its variables, one after another.
pub pushed_number : (old new : List NodeNo) (n : NodeNo) → new ≡ old ++ n ∷ [] → numbers_in new ≡ numbers_in old ++ n.0 ∷ []
pushed_number old new n e = ap numbers_in e ∙ map_push (λ (m : NodeNo). m.0) old n

small_at : (new : Numbering) (xs : List ℕ) (i : ℕ) → i < length xs
    → All (IsOwn 255) (variables_in (apply_all (λ q k. Terms.variable [] (new q k)) (as_terms (own xs)))) → new [] (get_or xs i 0) < 255
small_at new [] i lt a = absurd (omega arith)
small_at new (x ∷ xs) zero lt a =
    (All-head (IsOwn 255) ([], new [] x) (variables_in (apply_all (λ q k. Terms.variable [] (new q k)) (as_terms (own xs)))) a).1
small_at new (x ∷ xs) (suc i) lt a =
    small_at new xs i (omega arith)
    (All-tail (IsOwn 255) ([], new [] x) (variables_in (apply_all (λ q k. Terms.variable [] (new q k)) (as_terms (own xs)))) a)

pub call_more : (new : Numbering) (m : ℕ) (old us vs : List Shape) (vars : List (Path × ℕ)) (xs : List ℕ) (i k : ℕ) (args more : List NodeNo) (n : NodeNo)
    → vars ≡ own xs → IsRow m old us (length old + suc (length xs)) (numbers_in args) (map (new []) (take i xs)) → i < length xs
    → All (IsOwn 255) (variables_in (apply_all (λ q j. Terms.variable [] (new q j)) (as_terms vars))) → k ≡ new [] (get_or xs i 0)
    → IsPut us vs (Skeletons.variable k) n.0 → more ≡ args ++ n ∷ []
    → IsRow m old vs (length old + suc (length xs)) (numbers_in more) (map (new []) (take (i + 1) xs))
call_more new m old us vs vars xs i k args more n are r lt small is made pushed =
    let h : new [] (get_or xs i 0) < 255 =
    small_at new xs i lt (subst (λ ys. All (IsOwn 255) (variables_in (apply_all (λ q j. Terms.variable [] (new q j)) (as_terms ys)))) are small) in
    row_put m old us vs (length old + suc (length xs)) (numbers_in args) (numbers_in more) (map (new []) (take i xs)) (map (new []) (take (i + 1) xs)) n.0 k
    r made (pushed_number args more n pushed)
    (map_more (new []) xs i 0 lt ∙ ap (λ j. map (new []) (take i xs) ++ j ∷ []) (sym is)) (omega (arith, is, h))
    (omega (arith, r.count, length-map (take i xs) (new []), length-take-le i xs (omega (arith, lt)), lt))

pub head_more : (m : ℕ) (old us vs : List Shape) (count i : ℕ) (args more : List NodeNo) (n : NodeNo)
    → IsRow m old us (length old + suc count) (numbers_in args) (numbers_from 0 i) → i < count → count ≤ 255
    → IsPut us vs (Skeletons.variable i) n.0 → more ≡ args ++ n ∷ []
    → IsRow m old vs (length old + suc count) (numbers_in more) (numbers_from 0 (i + 1))
head_more m old us vs count i args more n r lt few made pushed =
    let z : 0 + i ≡ i = omega arith in
    row_put m old us vs (length old + suc count) (numbers_in args) (numbers_in more) (numbers_from 0 i) (numbers_from 0 (i + 1)) n.0 i r made
    (pushed_number args more n pushed)
    (numbers_last 0 i ∙ ap (λ j. numbers_from 0 i ++ j ∷ []) z) (omega (arith, lt, few)) (omega (arith, r.count, numbers-length 0 i, lt))

pub call_end : {E : Type 0} (r : Result NodeNo E) (new : Numbering) (m : ℕ) (old us vs : List Shape) (d : Named) (xs : List ℕ) (i c : ℕ) (args : List NodeNo)
    → d.name ≡ c → d.variables ≡ own xs → IsRow m old us (length old + suc (length xs)) (numbers_in args) (map (new []) (take i xs)) → length xs ≤ i → c < m
    → length xs ≤ 255 → IfOk r (λ n. IsPut us vs (compound c (numbers_in args)) n.0)
    → OnOk r (Grown m old vs (length old + suc (length d.variables))) × IfOk r (λ n. IsNode vs n.0 (renumbered new (call_of d)))
call_end r new m old us vs d xs i c args named are row done lt few put =
    let all : take i xs ≡ xs = take_all i xs done in
    let size : length d.variables ≡ length xs = ap length are ∙ length-map xs (λ j. let v : Path × ℕ = ([], j) in v) in
    let is : renumbered new (call_of d) ≡ Terms.compound c (term_list (as_variables (map (new []) (take i xs)))) =
    ap (λ n. Terms.compound n (apply_all (λ q k. Terms.variable [] (new q k)) (as_terms d.variables))) named
    ∙ ap (λ ys. Terms.compound c (apply_all (λ q k. Terms.variable [] (new q k)) (as_terms ys))) are
    ∙ ap (Terms.compound c) (called_row new xs) ∙ ap (λ ys. Terms.compound c (term_list (as_variables (map (new []) ys)))) (sym all) in
    let most : length old + suc (length xs) ≡ length old + suc (length d.variables) = omega (arith, size) in
    let end = row_end r m old us vs (length old + suc (length xs)) c (numbers_in args) (map (new []) (take i xs)) (renumbered new (call_of d)) row lt
    (omega (arith, length-map (take i xs) (new []), ap length (take_all i xs done), few))
    (omega (arith, row.count, length-map (take i xs) (new []), ap length all)) is put in
    (subst (λ n. OnOk r (Grown m old vs n)) most end.0, end.1)

pub head_end : {E : Type 0} (r : Result NodeNo E) (m : ℕ) (old us vs : List Shape) (d : Named) (count i c : ℕ) (args : List NodeNo)
    → d.name ≡ c → length d.variables ≡ count → IsRow m old us (length old + suc count) (numbers_in args) (numbers_from 0 i) → i ≡ count → c < m
    → count ≤ 255 → IfOk r (λ n. IsPut us vs (compound c (numbers_in args)) n.0)
    → OnOk r (Grown m old vs (length old + suc (length d.variables))) × IfOk r (λ n. IsNode vs n.0 (head_of d))
head_end r m old us vs d count i c args named are row done lt few put =
    let is : head_of d ≡ Terms.compound c (term_list (as_variables (numbers_from 0 i))) =
    ap (λ n. Terms.compound n (numbered_variables 0 d.variables)) named
    ∙ ap (Terms.compound c) (head_row 0 d.variables ∙ ap (λ k. term_list (as_variables (numbers_from 0 k))) (are ∙ sym done)) in
    let most : length old + suc count ≡ length old + suc (length d.variables) = omega (arith, are) in
    let end = row_end r m old us vs (length old + suc count) c (numbers_in args) (numbers_from 0 i) (head_of d) row lt
    (omega (arith, numbers-length 0 i, done, few)) (omega (arith, row.count, numbers-length 0 i, done)) is put in
    (subst (λ n. OnOk r (Grown m old vs n)) most end.0, end.1)

-- the written names of its variables
written_own : (written : List Bytes) (ks : List ℕ) → map (λ (v : Path × ℕ). get_or written v.1 []) (own ks) ≡ map (λ v. get_or written v []) ks
written_own written [] = refl
written_own written (k ∷ ks) = ap (λ xs. get_or written k [] ∷ xs) (written_own written ks)

pub size_of_nodes : (ns : List Node) → length (shapes_of ns) ≡ length ns
size_of_nodes ns = length-map ns shape_of

-- a clause of nothing
abbrev pub no_clause : SourceClause
no_clause = record { number = 0; head = Terms.compound 0 Terms.none; body = no_items; variables = 0; written = []; line = 0 }

-- ---- An entry of a head and items that were lifted.
module _ (us : List Shape) (e : ClauseEntry) (c : Clause) (head : node_term us e.head.0 ≡ c.head)
    (body : map (item_of us) (map node_item e.items.items) ≡ c.body) (variables : length e.variables.items ≡ c.variables)
    (written : e.variables.items ≡ c.written) (line : e.line ≡ c.line) where
  pub entry_is : entry_clause us e ≡ c
  entry_is =
      let made : Term → List Item → ℕ → List Bytes → ℕ → Clause =
      λ h b v w l. record { head = h; body = b; variables = v; written = w; line = l } in
      ap (λ h. made h (map (item_of us) (map node_item e.items.items)) (length e.variables.items) e.variables.items e.line) head
      ∙ ap (λ b. made c.head b (length e.variables.items) e.variables.items e.line) body
      ∙ ap (λ v. made c.head c.body v e.variables.items e.line) variables
      ∙ ap (λ w. made c.head c.body c.variables w e.line) written
      ∙ ap (made c.head c.body c.variables c.written) line

  pub entry_there : e.head.0 < length us → AllThere us 0 (map node_item e.items.items) → HasOwnVariables c → IsEntry us e
  entry_there lt there own = (lt, there, subst HasOwnVariables (sym entry_is) own)

-- the items of a clause that names its own few variables
pub items_few : (c : Clause) → c.variables ≤ 255 → HasOwnVariables c → All (AreOwn 255) (flat_map terms_of_item c.body)
items_few c le own =
    All-weaker (AreOwn c.variables) (AreOwn 255) (λ t o. more_own c.variables 255 t le o) (flat_map terms_of_item c.body)
    (All-tail (AreOwn c.variables) c.head (flat_map terms_of_item c.body) own)

pub head_few : (c : Clause) → c.variables ≤ 255 → HasOwnVariables c → AreOwn 255 c.head
head_few c le own = more_own c.variables 255 c.head le (All-head (AreOwn c.variables) c.head (flat_map terms_of_item c.body) own)

-- ---- An alternative.
module _ (ss : List Shape) (ds : List Named) (k : SourceClause) (o : Outline) (n : ℕ) (vs : List ℕ) (scope : o.scope ≡ Some n)
    (variables : (named_at ds n).variables ≡ own vs) where
  abbrev whole : Clause
  whole = outline_clause ds k (outline_in ss o)

  abbrev scoped : Clause
  scoped = clause_in ds k (Some n) (outline_in ss o).pieces

  whole_is : whole ≡ scoped
  whole_is = ap (λ s. clause_in ds k s (outline_in ss o).pieces) scope

  pub few_variables : length vs ≤ 255 → whole.variables ≤ 255
  few_variables le =
      let e : whole.variables ≡ length (named_at ds n).variables = ap (λ (c : Clause). c.variables) whole_is in
      let f : length (named_at ds n).variables ≡ length vs = ap length variables ∙ length-map vs (λ j. let v : Path × ℕ = ([], j) in v) in omega (arith, e, f)

  pub body_is : whole.body ≡ pieces_items ds (numbering_by (own vs)) (outline_in ss o).pieces
  body_is = ap (λ (c : Clause). c.body) whole_is ∙ ap (λ xs. pieces_items ds (numbering_by xs) (outline_in ss o).pieces) variables

  pub pieces_own : length vs ≤ 255 → HasOwnVariables whole
      → All (AreOwn 255) (flat_map terms_of_item (pieces_items ds (numbering_by (own vs)) (outline_in ss o).pieces))
  pieces_own le h = subst (λ b. All (AreOwn 255) (flat_map terms_of_item b)) body_is (items_few whole (few_variables le) h)

  pub alternative_made : (us mid : List Shape) (e : ClauseEntry) (h : ℕ) (items : List ItemNode) (names written : List Bytes) (line : ℕ)
      → IsNode mid h (head_of (named_at ds n)) → IsNode us h (node_term mid h)
      → map (item_of us) (map node_item items) ≡ pieces_items ds (numbering_by (own vs)) (outline_in ss o).pieces → AllThere us 0 (map node_item items)
      → names ≡ map (λ v. get_or written v []) vs → e.head.0 ≡ h → e.items.items ≡ items → e.variables.items ≡ names → e.line ≡ line
      → k.written ≡ written → k.line ≡ line → HasOwnVariables whole → IsEntry us e × (entry_clause us e ≡ whole)
  alternative_made us mid e h items names written line head stays lifted there named head_is items_are names_are line_is is_written is_line own =
      let texts : e.variables.items ≡ whole.written =
      names_are ∙ named ∙ sym (written_own written vs) ∙ ap (map (λ (v : Path × ℕ). get_or written v.1 [])) (sym variables)
      ∙ ap (λ xs. map (λ (v : Path × ℕ). get_or xs v.1 []) (named_at ds n).variables) (sym is_written) ∙ sym (ap (λ (c : Clause). c.written) whole_is) in
      let count : length e.variables.items ≡ whole.variables =
      ap length (names_are ∙ named) ∙ length-map vs (λ v. get_or written v []) ∙ sym (length-map vs (λ j. let v : Path × ℕ = ([], j) in v))
      ∙ ap length (sym variables) ∙ sym (ap (λ (c : Clause). c.variables) whole_is) in
      let top : node_term us e.head.0 ≡ whole.head =
      ap (node_term us) head_is ∙ stays.1 ∙ head.1 ∙ sym (ap (λ (c : Clause). c.head) whole_is) in
      let body : map (item_of us) (map node_item e.items.items) ≡ whole.body =
      ap (λ xs. map (item_of us) (map node_item xs)) items_are ∙ lifted ∙ sym body_is in
      let last : e.line ≡ whole.line = line_is ∙ sym is_line ∙ sym (ap (λ (c : Clause). c.line) whole_is) in (
        entry_there us e whole top body count texts last (omega (arith, head_is, stays.0))
            (subst (λ xs. AllThere us 0 (map node_item xs)) (sym items_are) there) own,
        entry_is us e whole top body count texts last,
      )

-- ---- Alternatives by their places.
pub scope_there : (n m : ℕ) (os : List Outline) (i : ℕ) (d : Outline) → i < length os → AreAlternatives n m os
    → IsScope m (get_or os i d).scope × ArePiecesThere n m (get_or os i d).pieces.items
scope_there n m [] i d lt a = absurd (omega arith)
scope_there n m (o ∷ os) zero d lt a = a.0
scope_there n m (o ∷ os) (suc i) d lt a = scope_there n m os i d (omega arith) a.1

pub own_at : (ss : List Shape) (ds : List Named) (k : SourceClause) (os : List Outline) (i : ℕ) (d : Outline) → i < length os
    → HaveOwn (map (outline_clause ds k) (outlines_in ss os)) → HasOwnVariables (outline_clause ds k (outline_in ss (get_or os i d)))
own_at ss ds k [] i d lt a = absurd (omega arith)
own_at ss ds k (o ∷ os) zero d lt a = a.0
own_at ss ds k (o ∷ os) (suc i) d lt a = own_at ss ds k os i d (omega arith) a.1

-- What was lifted of the first i alternatives.
pub record AreLiftedSoFar (ss : List Shape) (ds : List Named) (m : ℕ) (old us : List Shape) (most : ℕ) (written : List Bytes) (line : ℕ)
    (os : List Outline) (i : ℕ) (es : List ClauseEntry) : Type 0 where
  pub grown : Grown m old us most
  pub room : length us + outlines_size ds (outlines_in ss (drop i os)) ≤ most
  pub lifted : (k : SourceClause) → k.written ≡ written → k.line ≡ line → AreLifted us es (map (outline_clause ds k) (outlines_in ss (take i os)))

module _ (ss : List Shape) (ds : List Named) (m : ℕ) (written : List Bytes) (line : ℕ) where
  pub none_lifted : (old : List Shape) (most : ℕ) (os : List Outline) (es : List ClauseEntry) → es ≡ [] → HaveRoom m old (outlines_size ds (outlines_in ss os))
      → most ≡ length old + outlines_size ds (outlines_in ss os) → AreLiftedSoFar ss ds m old old most written line os 0 es
  none_lifted old most os es e h is =
      subst (AreLiftedSoFar ss ds m old old most written line os 0) (sym e) (record {
        grown = record { kept = begins_self old; falls = h.falls; within = h.within; few = omega (arith, is) };
        room = omega (arith, is);
        lifted = λ k w l. record { entries = tt; clauses = refl };
      })

  next_size : (os : List Outline) (i : ℕ) (o : Outline) → i < length os → o ≡ get_or os i o
      → outlines_size ds (outlines_in ss (drop i os)) ≡ outline_size ds (outline_in ss o) + outlines_size ds (outlines_in ss (drop (i + 1) os))
  next_size os i o lt at =
      ap (λ xs. outlines_size ds (outlines_in ss xs)) (drop_more os i o lt ∙ ap (λ q. q ∷ drop (i + 1) os) (sym at))

  pub outline_room : (old us : List Shape) (most : ℕ) (os : List Outline) (i : ℕ) (o : Outline) (es : List ClauseEntry) → i < length os → o ≡ get_or os i o
      → most ≤ 524289 → AreLiftedSoFar ss ds m old us most written line os i es → HaveRoom m us (outline_size ds (outline_in ss o))
  outline_room old us most os i o es lt at le a =
      record { falls = a.grown.falls; within = a.grown.within; room = omega (arith, next_size os i o lt at, a.room) }

  pub one_lifted : (old us vs : List Shape) (most : ℕ) (os : List Outline) (i : ℕ) (o : Outline) (es fs : List ClauseEntry) (e : ClauseEntry) → i < length os
      → o ≡ get_or os i o → AreLiftedSoFar ss ds m old us most written line os i es → Grown m us vs (length us + outline_size ds (outline_in ss o))
      → ((k : SourceClause) → k.written ≡ written → k.line ≡ line → IsEntry vs e × (entry_clause vs e ≡ outline_clause ds k (outline_in ss o)))
      → fs ≡ es ++ e ∷ [] → AreLiftedSoFar ss ds m old vs most written line os (i + 1) fs
  one_lifted old us vs most os i o es fs e lt at a g made pushed =
      let size : ℕ = outline_size ds (outline_in ss o) in
      let next = next_size os i o lt at in
      let rest : List Shape = drop (length us) vs in
      let all : vs ≡ us ++ rest = begins_all us vs g.kept in
      let taken : take (i + 1) os ≡ take i os ++ o ∷ [] = take_more os i o lt ∙ ap (λ q. take i os ++ q ∷ []) (sym at) in
      record {
        grown = grown_more m old vs (length us + size) most (omega (arith, next, a.room)) (grown_again m old us vs most (length us + size) a.grown g);
        room = omega (arith, next, a.room, g.few);
        lifted = λ k w l.
            let before = a.lifted k w l in
            let c : Outline → Clause = λ q. outline_clause ds k (outline_in ss q) in
            let stays : map (entry_clause vs) es ≡ map (entry_clause us) es =
            ap (λ xs. map (entry_clause xs) es) all ∙ entries_front us rest es before.entries in record {
              entries = subst (AllEntries vs) (sym pushed)
                  (entries_append vs es (e ∷ []) (subst (λ xs. AllEntries xs es) (sym all) (are_entries_front us rest es before.entries)) ((made k w l).0, tt));
              clauses = ap (map (entry_clause vs)) pushed ∙ map_push (entry_clause vs) es e
                  ∙ ap (λ cs. cs ++ entry_clause vs e ∷ []) (stays ∙ before.clauses)
                  ∙ ap (λ x. map (outline_clause ds k) (outlines_in ss (take i os)) ++ x ∷ []) (made k w l).1
                  ∙ sym (ap (λ qs. map (outline_clause ds k) (outlines_in ss qs)) taken
                  ∙ ap (map (outline_clause ds k)) (map_push (outline_in ss) (take i os) o)
                  ∙ map_push (outline_clause ds k) (outlines_in ss (take i os)) (outline_in ss o));
            };
      }

  -- all of them
  pub all_lifted : (old us : List Shape) (most : ℕ) (os : List Outline) (i : ℕ) (es : List ClauseEntry) → length os ≤ i
      → AreLiftedSoFar ss ds m old us most written line os i es → (k : SourceClause) → k.written ≡ written → k.line ≡ line
      → AreLifted us es (map (outline_clause ds k) (outlines_in ss os))
  all_lifted old us most os i es le a k w l =
      subst (λ qs. AreLifted us es (map (outline_clause ds k) (outlines_in ss qs))) (take_all i os le) (a.lifted k w l)

pub scope_some : (m : ℕ) (s : Option ℕ) → IsScope m s → (d : ℕ) × (s ≡ Some d)
scope_some m None a = absurd a
scope_some m (Some d) a = (d, refl)

pub scope_below : (m d : ℕ) (s : Option ℕ) → s ≡ Some d → IsScope m s → d < m
scope_below m d s e a = subst (IsScope m) e a
