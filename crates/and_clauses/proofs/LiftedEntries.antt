-- The entries of a body's outlines.
use Rattle.std.proofs.Common.{ℕ, ◌+◌, ◌≡◌, ◌<◌, ◌≤◌, List, [], ◌∷◌, length, get_or, map, drop, Option, None, ap, sym, ◌∙◌, arith, subst, All}
use Rattle.std.specs.Prelude.{flat_map}
use Rattle.and_model.specs.Lines.{Bytes}
use Rattle.and_model.specs.Programs.{Clause}
use Rattle.and_model.specs.OwnVariables.{AreOwn, terms_of_item}
use Rattle.and_source.specs.Source.{SourceItems, SourceClause}
use Rattle.and_source.specs.Lifted.{lifted_clause, clauses_of_items}
use Rattle.and_source.proofs.OwnVariables.{clause_own}
use Rattle.and_program.specs.Skeletons.{Shape, node_term, item_of, AllThere}
use Rattle.and_program.specs.Items.{node_item}
use Rattle.and_program.specs.Nodes.{entry_clause}
use Rattle.and_program.specs.declared.entry.ClauseEntry.{ClauseEntry}
use Rattle.and_program.specs.declared.item.ItemNode.{ItemNode}
use Rattle.and_drafts.specs.Parts.{part_shapes}
use Rattle.and_drafts.specs.Numbered.{met_by}
use Rattle.and_judging.specs.Sorted as sorted
use Rattle.and_judging.specs.Sorts.{piece_in, outline_in, outlines_in}
use Rattle.and_judging.specs.Outlined.{Named, outline_clause, own_clause, pieces_items, pieces_size, outline_size, outlines_size, scope_size}
use Rattle.and_clauses.specs.Copies.{IsNode, Begins}
use Rattle.and_clauses.specs.Lifts.{named_under, nodes_under, IsLifting, AreLifted, head_term, clause_under, AreOutlines}
use Rattle.and_clauses.specs.declared.lifting.Lifting.{Lifting}
use Rattle.and_judging.specs.declared.sorting.Outline.{Outline}
use Rattle.and_clauses.proofs.Placing.{begins_again}
use Rattle.and_clauses.proofs.LiftSteps.{node_kept, items_kept, all_there_kept}
use Rattle.and_clauses.proofs.LiftClauses.{entry_is, entry_there, items_few, head_few}
use Rattle.and_clauses.proofs.Entries.{outlines_some, first_is, whole_is, whole_own, alternatives_are, by_first}

module _ (l : Lifting) (is : IsLifting l) (head : Option ℕ) (line : ℕ) (os : List Outline) (items : SourceItems) (are : AreOutlines l head line os items)
    (few : length (met_by [] (part_shapes l.parts.now)) ≤ 255) where
  abbrev ds : List Named
  ds = named_under l

  abbrev ss : List Shape
  ss = nodes_under l

  abbrev k : SourceClause
  k = clause_under l head line items

  -- the terms of the clause itself have few variables
  pub pieces_own : (o : Outline) → o ≡ get_or os 0 o → All (AreOwn 255) (flat_map terms_of_item (pieces_items ds (λ q n. n) (map (piece_in ss) o.pieces.items)))
  pieces_own o at =
      subst (λ ps. All (AreOwn 255) (flat_map terms_of_item (pieces_items ds (λ q n. n) ps))) (sym (first_is l is head line os items are o at))
      (items_few (own_clause ds k (sorted.pieces_of 0 items)) few (whole_own l is head line os items are))

  pub head_own : AreOwn 255 (head_term ss head)
  head_own = head_few (own_clause ds k (sorted.pieces_of 0 items)) few (whole_own l is head line os items are)

  -- the nodes of the outlines
  split : (xs : List Outline) (o : Outline) → 0 < length xs → o ≡ get_or xs 0 o
      → outlines_size ds (outlines_in ss xs) ≡ outline_size ds (outline_in ss o) + outlines_size ds (outlines_in ss (drop 1 xs))
  split [] o lt at = absurd (omega arith)
  split (x ∷ xs) o lt at = ap (λ (y : Outline). outline_size ds (outline_in ss y) + outlines_size ds (outlines_in ss xs)) (sym at)

  pub size_split : (o : Outline) → o ≡ get_or os 0 o → outlines_size ds (outlines_in ss os)
      ≡ pieces_size ds (map (piece_in ss) o.pieces.items) + outlines_size ds (outlines_in ss (drop 1 os))
  size_split o at =
      let scope : o.scope ≡ None =
      ap (λ (x : Outline). x.scope) at ∙ ap (λ (x : sorted.Outline). x.scope) (by_first l is head line os items are os o are.outlines).0 in
      let none : scope_size ds o.scope ≡ 0 = ap (scope_size ds) scope in
      omega (arith, split os o (outlines_some l is head line os items are) at, none)

  -- ---- The entries.
  pub entries_made : (m : ℕ) (us mid vs : List Shape) (e : ClauseEntry) (es : List ClauseEntry) (h : ℕ) (its : List ItemNode)
      (written : List Bytes) (o : Outline)
      → o ≡ get_or os 0 o → IsNode us h (head_term ss head) → Begins us mid → Begins mid vs
      → map (item_of mid) (map node_item its) ≡ pieces_items ds (λ q n. n) (map (piece_in ss) o.pieces.items) → AllThere mid 0 (map node_item its)
      → AreLifted vs es (map (outline_clause ds (record k { number = m })) (outlines_in ss (drop 1 os)))
      → written ≡ met_by [] (part_shapes l.parts.now)
      → e.head.0 ≡ h → e.items.items ≡ its → e.variables.items ≡ written → e.line ≡ line
      → AreLifted vs (e ∷ es) (lifted_clause (record k { number = m }) ∷ clauses_of_items (record k { number = m }) items)
  entries_made m us mid vs e es h its written o at node first second lifted there others names head_is items_are names_are line_is =
      let c : Clause = lifted_clause k in
      let here = node_kept us vs h (head_term ss head) (begins_again us mid vs first second) node in
      let top : node_term vs e.head.0 ≡ c.head = ap (node_term vs) head_is ∙ here.1 in
      let body : map (item_of vs) (map node_item e.items.items) ≡ c.body =
      ap (λ xs. map (item_of vs) (map node_item xs)) items_are ∙ items_kept mid vs 0 (map node_item its) second there ∙ lifted
      ∙ ap (pieces_items ds (λ q n. n)) (first_is l is head line os items are o at) ∙ ap (λ (x : Clause). x.body) (whole_is l is head line os items are) in
      let texts : e.variables.items ≡ c.written = names_are ∙ names in
      let count : length e.variables.items ≡ c.variables = ap length texts in
      let one = entry_there vs e c top body count texts line_is (omega (arith, head_is, here.0))
      (subst (λ xs. AllThere vs 0 (map node_item xs)) (sym items_are) (all_there_kept mid vs 0 (map node_item its) second there)) (clause_own k are.own) in
      record {
        entries = (one, others.entries);
        clauses = ap (λ x. x ∷ map (entry_clause vs) es) (entry_is vs e c top body count texts line_is)
            ∙ ap (λ xs. c ∷ xs) (others.clauses ∙ alternatives_are l is head line os items are o m);
      }
