-- The clause of a body and those of its alternatives are lifted.
use Rattle.std.proofs.Common.{ℕ, suc, ◌+◌, ◌≡◌, ◌<◌, ◌≤◌, true, List, [], ◌∷◌, ◌++◌, length, get_or, map, drop, Option, Some, None, refl, ap, sym}
use Rattle.std.proofs.Common.{◌∙◌}
use Rattle.std.proofs.Common.{arith, subst, All}
use Rattle.std.proofs.lemmas.Bool.Decides.{nat_tests}
use Rattle.std.proofs.lemmas.List.{append-nil, length-append, length-map, map-append}
use Rattle.std.proofs.lemmas.List.Elements.{All-head}
use Rattle.and_model.specs.Terms
use Rattle.and_model.specs.Terms.{Term, Terms, variables_in, apply_all}
use Rattle.and_model.specs.Programs.{Clause}
use Rattle.and_model.specs.OwnVariables.{IsOwn, AreOwn, HasOwnVariables}
use Rattle.and_model.proofs.OwnVariables.{first_own, others_own}
use Rattle.and_source.specs.Source
use Rattle.and_source.specs.Source.{SourceItems, no_items, plain, Alternatives, no_alternatives, alternative, SourceClause}
use Rattle.and_source.specs.Source.{disjunctions_in_items, disjunctions_in_alternatives}
use Rattle.and_source.specs.Lifted.{renumbered, lifted_clause, clauses_of_items}
use Rattle.and_source.proofs.OwnVariables.{Each, clause_own, of_clauses}
use Rattle.and_program.specs.Skeletons.{Shape, variable, number, compound}
use Rattle.and_program.specs.Kept.{begins_with_true}
use Rattle.and_program.proofs.NodeTerms.{node_term_front}
use Rattle.and_model.specs.declared.numbers.NameNo.{NameNo}
use Rattle.and_judging.specs.Sorted as sorted
use Rattle.and_judging.specs.Sorted.{local_of, locals_of, locals_in, pieces_of, outlines_of, kept, called}
use Rattle.and_judging.specs.Sorts.{AreItemsThere, AreOutlinesThere, piece_in, outline_in, outlines_in}
use Rattle.and_judging.specs.Outlined.{Named, named_in, clause_in, outline_clause, own_clause}
use Rattle.and_clauses.specs.Copies.{named_by, IsNode}
use Rattle.and_clauses.specs.Lifts.{named_under, nodes_under, IsLifting, ArePiecesThere, IsScope, AreAlternatives, HaveOwn, clause_under, AreOutlines}
use Rattle.and_clauses.specs.declared.lifting.Lifting.{Lifting}
use Rattle.and_judging.specs.declared.sorting.Disjunction.{Disjunction}
use Rattle.and_judging.specs.declared.sorting.Piece.{Piece}
use Rattle.and_judging.specs.declared.sorting.Piece.TheVariants as code
use Rattle.and_judging.specs.declared.sorting.Outline.{Outline}
use Rattle.and_judging.proofs.Outlining.{stand-all, same_length_of, outlines_are, own_is}

-- ---- A term of a clause's own variables is not changed by their numbers.
mutual
  pub same_term : (n : ℕ) (t : Term) → AreOwn n t → renumbered (λ q k. k) t ≡ t
  same_term n (Terms.variable q k) a =
      let e : q ≡ [] = (All-head (IsOwn n) (q, k) [] a).0 in ap (λ p. Terms.variable p k) (sym e)
  same_term n (Terms.number z) a = refl
  same_term n (Terms.compound c ts) a = ap (λ us. Terms.compound c us) (same_terms n ts a)

  same_terms : (n : ℕ) (ts : Terms) → All (IsOwn n) (variables_in ts) → apply_all (λ q k. Terms.variable [] k) ts ≡ ts
  same_terms n Terms.none a = refl
  same_terms n (Terms.more t ts) a =
      ap (λ u. Terms.more u (apply_all (λ q k. Terms.variable [] k) ts)) (same_term n t (first_own n t ts a))
      ∙ ap (λ us. Terms.more t us) (same_terms n ts (others_own n t ts a))

-- the first node is the atom `true`
pub true_node : (us : List Shape) → begins_with_true us ≡ true → IsNode us 0 (Terms.compound 0 Terms.none)
true_node [] e = absurd cc
true_node (variable k ∷ us) e = absurd cc
true_node (number z ∷ us) e = absurd cc
true_node (compound c [] ∷ us) e =
    let z : c ≡ 0 = grind (arith, nat_tests, e) in
    let more : length (compound c [] ∷ us) ≡ suc (length us) = refl in
    (omega (arith, more), node_term_front (compound c [] ∷ []) us 0 (omega arith) ∙ ap (λ d. Terms.compound d Terms.none) z)
true_node (compound c (n ∷ ns) ∷ us) e = absurd cc

-- ---- The disjunctions that pieces call, and of which outlines are alternatives, are some of m.
abbrev Calls : ℕ → List sorted.Piece → Type 0
Calls m [] = Unit {0}
Calls m (kept i ∷ ps) = Calls m ps
Calls m (called d ∷ ps) = (d < m) × Calls m ps

abbrev Scoped : ℕ → List sorted.Outline → Type 0
Scoped m [] = Unit {0}
Scoped m (o ∷ os) = (IsScope m o.scope × Calls m o.pieces) × Scoped m os

scoped_append : (m : ℕ) (os us : List sorted.Outline) → Scoped m os → Scoped m us → Scoped m (os ++ us)
scoped_append m [] us a b = b
scoped_append m (o ∷ os) us a b = (a.0, scoped_append m os us a.1 b)

count_either : (name : ℕ) (alts : Alternatives) (items : SourceItems)
    → length (locals_of (Source.either name alts items)) ≡ suc (length (locals_in alts) + length (locals_of items))
count_either name alts items =
    let f : ℕ × Alternatives → sorted.Local = λ d. local_of d.1 in
    ap suc (ap length (map-append f (disjunctions_in_alternatives alts) (disjunctions_in_items items)) ∙ length-append (locals_in alts) (locals_of items))

count_alternative : (c : ℕ) (items : SourceItems) (alts : Alternatives)
    → length (locals_in (alternative c items alts)) ≡ length (locals_of items) + length (locals_in alts)
count_alternative c items alts =
    let f : ℕ × Alternatives → sorted.Local = λ d. local_of d.1 in
    ap length (map-append f (disjunctions_in_items items) (disjunctions_in_alternatives alts)) ∙ length-append (locals_of items) (locals_in alts)

pub calls_below : (n m : ℕ) (items : SourceItems) → n + length (locals_of items) ≤ m → Calls m (pieces_of n items)
calls_below n m no_items le = tt
calls_below n m (plain i items) le = calls_below n m items le
calls_below n m (Source.either name alts items) le =
    (omega (arith, le, count_either name alts items), calls_below (suc n + length (locals_in alts)) m items (omega (arith, le, count_either name alts items)))

mutual
  pub scopes_below : (n m : ℕ) (items : SourceItems) → n + length (locals_of items) ≤ m → Scoped m (outlines_of n items)
  scopes_below n m no_items le = tt
  scopes_below n m (plain i items) le = scopes_below n m items le
  scopes_below n m (Source.either name alts items) le =
      let k : ℕ = suc n + length (locals_in alts) in
      scoped_append m (sorted.outlines_in n (suc n) alts) (outlines_of k items)
      (alternatives_below n (suc n) m alts (omega (arith, le, count_either name alts items)) (omega (arith, le, count_either name alts items)))
      (scopes_below k m items (omega (arith, le, count_either name alts items)))

  alternatives_below : (d n m : ℕ) (alts : Alternatives) → d < m → n + length (locals_in alts) ≤ m → Scoped m (sorted.outlines_in d n alts)
  alternatives_below d n m no_alternatives lt le = tt
  alternatives_below d n m (alternative c items alts) lt le =
      let k : ℕ = n + length (locals_of items) in (
        (lt, calls_below n m items (omega (arith, le, count_alternative c items alts))),
        scoped_append m (outlines_of n items) (sorted.outlines_in d k alts)
            (scopes_below n m items (omega (arith, le, count_alternative c items alts)))
            (alternatives_below d k m alts lt (omega (arith, le, count_alternative c items alts))),
      )

-- so it is in the code
pub pieces_there : (ss : List Shape) (n m : ℕ) (ps : List Piece) → AreItemsThere n ps → Calls m (map (piece_in ss) ps) → ArePiecesThere n m ps
pieces_there ss n m [] a c = tt
pieces_there ss n m (code.Item i ∷ ps) a c = (a.0, pieces_there ss n m ps a.1 c)
pieces_there ss n m (code.Disjunction d ∷ ps) a c = (c.0, pieces_there ss n m ps a c.1)

pub alternatives_there : (ss : List Shape) (n m : ℕ) (os : List Outline) → AreOutlinesThere n os → Scoped m (outlines_in ss os) → AreAlternatives n m os
alternatives_there ss n m [] a c = tt
alternatives_there ss n m (o ∷ os) a c = ((c.0.0, pieces_there ss n m o.pieces.items a.0 c.0.1), alternatives_there ss n m os a.1 c.1)

-- ---- Own variables, whichever clause they stand in.
own_scope : (ds : List Named) (k j : SourceClause) (m : ℕ) (s : Option ℕ) (ps : List sorted.Piece) → IsScope m s → HasOwnVariables (clause_in ds k s ps)
    → HasOwnVariables (clause_in ds j s ps)
own_scope ds k j m None ps a h = absurd a
own_scope ds k j m (Some n) ps a h = h

own_any : (ds : List Named) (k j : SourceClause) (m : ℕ) (os : List sorted.Outline) → Scoped m os → HaveOwn (map (outline_clause ds k) os)
    → HaveOwn (map (outline_clause ds j) os)
own_any ds k j m [] a h = tt
own_any ds k j m (o ∷ os) a h = (own_scope ds k j m o.scope o.pieces a.0.0 h.0, own_any ds k j m os a.1 h.1)

each_own : (cs : List Clause) → Each cs → HaveOwn cs
each_own [] e = tt
each_own (c ∷ cs) e = (e.0, each_own cs e.1)

-- ---- What the outlines of a body give.
named_length : (ds : List Disjunction) (ns : List NameNo) → length ns ≡ length ds → length (named_by ds ns) ≡ length ds
named_length [] ns e = refl
named_length (d ∷ ds) [] e = absurd (omega (arith, e))
named_length (d ∷ ds) (n ∷ ns) e = let h : length ns ≡ length ds = omega (arith, e) in omega (arith, named_length ds ns h)

module _ (l : Lifting) (is : IsLifting l) (head : Option ℕ) (line : ℕ) (os : List Outline) (items : SourceItems) (are : AreOutlines l head line os items) where
  abbrev ds : List Named
  ds = named_under l

  abbrev k : SourceClause
  k = clause_under l head line items

  count : length (locals_of items) ≡ length l.disjunctions.now
  count =
      sym (same_length_of items) ∙ ap length (sym are.disjunctions) ∙ named_length l.disjunctions.now l.numbers.now is.numbered

  -- the first outline, and the others
  pub outlines_some : 0 < length os
  outlines_some =
      let e : length os ≡ suc (length (outlines_of 0 items)) = sym (length-map os (outline_in (nodes_under l))) ∙ ap length are.outlines in omega (arith, e)

  pub by_first : (xs : List Outline) (d : Outline) → outlines_in (nodes_under l) xs ≡ record { scope = None; pieces = pieces_of 0 items } ∷ outlines_of 0 items
      → (outline_in (nodes_under l) (get_or xs 0 d) ≡ record { scope = None; pieces = pieces_of 0 items })
      × (outlines_in (nodes_under l) (drop 1 xs) ≡ outlines_of 0 items)
  by_first [] d e = absurd (omega (arith, ap length e))
  by_first (x ∷ xs) d e =
      (ap (λ (ys : List sorted.Outline). get_or ys 0 (outline_in (nodes_under l) x)) e, ap (drop 1) e)

  pub first_is : (o : Outline) → o ≡ get_or os 0 o → map (piece_in (nodes_under l)) o.pieces.items ≡ pieces_of 0 items
  first_is o at =
      ap (λ (x : Outline). map (piece_in (nodes_under l)) x.pieces.items) at ∙ ap (λ (x : sorted.Outline). x.pieces) (by_first os o are.outlines).0

  pub others_are : (d : Outline) → outlines_in (nodes_under l) (drop 1 os) ≡ outlines_of 0 items
  others_are d = (by_first os d are.outlines).1

  outline_items : (n : ℕ) (xs : List Outline) (d : Outline) → 0 < length xs → AreOutlinesThere n xs
      → AreItemsThere n (get_or xs 0 d).pieces.items × AreOutlinesThere n (drop 1 xs)
  outline_items n [] d lt a = absurd (omega arith)
  outline_items n (x ∷ xs) d lt a = a

  pub first_there : (o : Outline) → o ≡ get_or os 0 o → ArePiecesThere (length l.parts.now) (length l.disjunctions.now) o.pieces.items
  first_there o at =
      let n : ℕ = length l.parts.now in
      let m : ℕ = length l.disjunctions.now in
      pieces_there (nodes_under l) n m o.pieces.items
      (subst (λ (x : Outline). AreItemsThere n x.pieces.items) (sym at) (outline_items n os o outlines_some are.there).0)
      (subst (Calls m) (sym (first_is o at)) (calls_below 0 m items (omega (arith, count))))

  pub others_there : (d : Outline) → AreAlternatives (length l.parts.now) (length l.disjunctions.now) (drop 1 os)
  others_there d =
      let n : ℕ = length l.parts.now in
      let m : ℕ = length l.disjunctions.now in
      alternatives_there (nodes_under l) n m (drop 1 os) (outline_items n os d outlines_some are.there).1
      (subst (Scoped m) (sym (others_are d)) (scopes_below 0 m items (omega (arith, count))))

  -- the clauses
  pub whole_is : own_clause ds k (pieces_of 0 items) ≡ lifted_clause k
  whole_is =
      subst (λ xs. own_clause xs k (pieces_of 0 items) ≡ lifted_clause k) (sym are.disjunctions)
      (own_is (named_in items) k items refl (stand-all (named_in items)))

  pub alternatives_are : (d : Outline) (m : ℕ) → let j = record k { number = m } in
      map (outline_clause ds j) (outlines_in (nodes_under l) (drop 1 os)) ≡ clauses_of_items j items
  alternatives_are d m =
      let j : SourceClause = record k { number = m } in
      ap (map (outline_clause ds j)) (others_are d)
      ∙ subst (λ xs. map (outline_clause xs j) (outlines_of 0 items) ≡ clauses_of_items j items) (sym are.disjunctions)
      (outlines_are (named_in items) j 0 items (stand-all (named_in items)))

  pub whole_own : HasOwnVariables (own_clause ds k (pieces_of 0 items))
  whole_own = subst HasOwnVariables (sym whole_is) (clause_own k are.own)

  pub others_own_any : (d : Outline) (j : SourceClause) → HaveOwn (map (outline_clause ds j) (outlines_in (nodes_under l) (drop 1 os)))
  others_own_any d j =
      let m : ℕ = length l.disjunctions.now in
      let each : Each (clauses_of_items k items) =
      subst Each (append-nil (clauses_of_items k items)) (of_clauses (k ∷ []) (are.own, tt)).1 in
      let scopes : Scoped m (outlines_in (nodes_under l) (drop 1 os)) =
      subst (Scoped m) (sym (others_are d)) (scopes_below 0 m items (omega (arith, count))) in
      own_any ds k j m (outlines_in (nodes_under l) (drop 1 os)) scopes
      (subst HaveOwn (sym (alternatives_are d 0)) (each_own (clauses_of_items k items) each))
