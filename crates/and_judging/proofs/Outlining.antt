-- Outlines stand for the clauses to which a clause is lifted, and have as many nodes as are counted.
use Rattle.std.proofs.Common.{ℕ, suc, ◌+◌, ◌*◌, ◌≡◌, List, [], ◌∷◌, ◌++◌, length, map}
use Rattle.std.proofs.Common.{refl, ap, sym, ◌∙◌, arith, subst}
use Rattle.std.proofs.lemmas.List.{append_assoc, length-append, length-map, map-append}
use Rattle.and_model.specs.Programs.{Item, call, Clause}
use Rattle.and_source.specs.Source
use Rattle.and_source.specs.Source.{SourceItems, no_items, plain, Alternatives, no_alternatives, alternative, distinct_variables, SourceClause}
use Rattle.and_source.specs.Source.{disjunctions_in_items, disjunctions_in_alternatives}
use Rattle.and_source.specs.Lifted.{Numbering, renumbered, renumbered_item, lifted_items, lifted_clause, lifted_alternative, clauses_of_items}
use Rattle.and_source.specs.Lifted.{clauses_of_alternatives, numbering_of}
use Rattle.and_syntax.specs.Tables.{count_of, lifted_nodes}
use Rattle.and_judging.specs.Sorted.{Outline, local_of, locals_of, locals_in, pieces_of, outlines_of, outlines_in}
use Rattle.and_judging.specs.Outlined.{Named, named_of, named_in, named_at, call_of, pieces_items, alternative_clause, own_clause}
use Rattle.and_judging.specs.Outlined.{outline_clause}
use Rattle.and_judging.specs.Outlined.{item_size, pieces_size, outlines_size}
use Rattle.and_judging.proofs.SortingSteps.{get-last}

abbrev named_alternatives : Alternatives → List Named
named_alternatives alts = map named_of (disjunctions_in_alternatives alts)

-- these stand among the disjunctions from n on
abbrev Stand : List Named → ℕ → List Named → Type 0
Stand ds n [] = Unit {0}
Stand ds n (x ∷ xs) = (named_at ds n ≡ x) × Stand ds (suc n) xs

stand-left : (ds : List Named) (n : ℕ) (xs ys : List Named) → Stand ds n (xs ++ ys) → Stand ds n xs
stand-left ds n [] ys s = tt
stand-left ds n (x ∷ xs) ys s = (s.0, stand-left ds (suc n) xs ys s.1)

stand-right : (ds : List Named) (n : ℕ) (xs ys : List Named) → Stand ds n (xs ++ ys) → Stand ds (n + length xs) ys
stand-right ds n [] ys s = let z : n ≡ n + 0 = omega arith in subst (λ m. Stand ds m ys) z s
stand-right ds n (x ∷ xs) ys s =
    let z : suc n + length xs ≡ n + suc (length xs) = omega arith in subst (λ m. Stand ds m ys) z (stand-right ds (suc n) xs ys s.1)

stand-behind : (ps xs : List Named) → Stand (ps ++ xs) (length ps) xs
stand-behind ps [] = tt
stand-behind ps (x ∷ xs) =
    let e : (ps ++ x ∷ []) ++ xs ≡ ps ++ x ∷ xs = append_assoc ps (x ∷ []) xs in
    let z : length (ps ++ x ∷ []) ≡ suc (length ps) = omega (arith, length-append ps (x ∷ [])) in
    let next : Stand (ps ++ x ∷ xs) (length (ps ++ x ∷ [])) xs = subst (λ ds. Stand ds (length (ps ++ x ∷ [])) xs) e (stand-behind (ps ++ x ∷ []) xs) in
    (get-last ps xs x (record { name = 0; variables = [] }), subst (λ m. Stand (ps ++ x ∷ xs) m xs) z next)

pub stand-all : (ds : List Named) → Stand ds 0 ds
stand-all ds = stand-behind [] ds

pub same_length : (alts : Alternatives) → length (named_alternatives alts) ≡ length (locals_in alts)
same_length alts =
    length-map (disjunctions_in_alternatives alts) named_of
    ∙ sym (length-map (disjunctions_in_alternatives alts) (λ (d : ℕ × Alternatives). local_of d.1))

pub same_length_of : (items : SourceItems) → length (named_in items) ≡ length (locals_of items)
same_length_of items =
    length-map (disjunctions_in_items items) named_of
    ∙ sym (length-map (disjunctions_in_items items) (λ (d : ℕ × Alternatives). local_of d.1))

module _ (ds : List Named) where
  -- what stands of a disjunction, of those inside it, and of those behind it
  first : (n name : ℕ) (alts : Alternatives) (items : SourceItems) → Stand ds n (named_in (Source.either name alts items))
      → named_at ds n ≡ named_of (name, alts)
  first n name alts items s = s.0

  others : (n name : ℕ) (alts : Alternatives) (items : SourceItems) → Stand ds n (named_in (Source.either name alts items))
      → Stand ds (suc n) (named_alternatives alts ++ named_in items)
  others n name alts items s =
      subst (Stand ds (suc n)) (map-append named_of (disjunctions_in_alternatives alts) (disjunctions_in_items items)) s.1

  inside : (n name : ℕ) (alts : Alternatives) (items : SourceItems) → Stand ds n (named_in (Source.either name alts items))
      → Stand ds (suc n) (named_alternatives alts)
  inside n name alts items s = stand-left ds (suc n) (named_alternatives alts) (named_in items) (others n name alts items s)

  after : (n name : ℕ) (alts : Alternatives) (items : SourceItems) → Stand ds n (named_in (Source.either name alts items))
      → Stand ds (suc n + length (locals_in alts)) (named_in items)
  after n name alts items s =
      subst (λ k. Stand ds (suc n + k) (named_in items)) (same_length alts)
      (stand-right ds (suc n) (named_alternatives alts) (named_in items) (others n name alts items s))

  both : (n c : ℕ) (items : SourceItems) (alts : Alternatives) → Stand ds n (named_alternatives (alternative c items alts))
      → Stand ds n (named_in items ++ named_alternatives alts)
  both n c items alts s = subst (Stand ds n) (map-append named_of (disjunctions_in_items items) (disjunctions_in_alternatives alts)) s

  of_first : (n c : ℕ) (items : SourceItems) (alts : Alternatives) → Stand ds n (named_alternatives (alternative c items alts)) → Stand ds n (named_in items)
  of_first n c items alts s = stand-left ds n (named_in items) (named_alternatives alts) (both n c items alts s)

  of_others : (n c : ℕ) (items : SourceItems) (alts : Alternatives) → Stand ds n (named_alternatives (alternative c items alts))
      → Stand ds (n + length (locals_of items)) (named_alternatives alts)
  of_others n c items alts s =
      subst (λ k. Stand ds (n + k) (named_alternatives alts)) (same_length_of items)
      (stand-right ds n (named_in items) (named_alternatives alts) (both n c items alts s))

  pub pieces_are : (new : Numbering) (n : ℕ) (items : SourceItems) → Stand ds n (named_in items)
      → pieces_items ds new (pieces_of n items) ≡ lifted_items new items
  pieces_are new n no_items s = refl
  pieces_are new n (plain i items) s = ap (λ xs. renumbered_item new i ∷ xs) (pieces_are new n items s)
  pieces_are new n (Source.either name alts items) s =
      let m : ℕ = suc n + length (locals_in alts) in
      ap (λ (d : Named). call (renumbered new (call_of d)) ∷ pieces_items ds new (pieces_of m items)) (first n name alts items s)
      ∙ ap (λ xs. call (renumbered new (call_of (named_of (name, alts)))) ∷ xs) (pieces_are new m items (after n name alts items s))

  module _ (k : SourceClause) where
    abbrev with_body : ℕ → Alternatives → List Item → Clause
    with_body name whole body = record (alternative_clause ds k (named_of (name, whole)) []) { body = body }

    mutual
      pub outlines_are : (n : ℕ) (items : SourceItems) → Stand ds n (named_in items)
          → map (outline_clause ds k) (outlines_of n items) ≡ clauses_of_items k items
      outlines_are n no_items s = refl
      outlines_are n (plain i items) s = outlines_are n items s
      outlines_are n (Source.either name alts items) s =
          let m : ℕ = suc n + length (locals_in alts) in
          map-append (outline_clause ds k) (outlines_in n (suc n) alts) (outlines_of m items)
          ∙ ap (λ cs. cs ++ map (outline_clause ds k) (outlines_of m items))
          (alternatives_are n (suc n) name alts alts (first n name alts items s) (inside n name alts items s))
          ∙ ap (λ cs. clauses_of_alternatives k name alts alts ++ cs) (outlines_are m items (after n name alts items s))

      alternatives_are : (d n name : ℕ) (whole alts : Alternatives) → named_at ds d ≡ named_of (name, whole) → Stand ds n (named_alternatives alts)
          → map (outline_clause ds k) (outlines_in d n alts) ≡ clauses_of_alternatives k name whole alts
      alternatives_are d n name whole no_alternatives e s = refl
      alternatives_are d n name whole (alternative c items alts) e s =
          let m : ℕ = n + length (locals_of items) in
          let rest : List Clause = map (outline_clause ds k) (outlines_of n items ++ outlines_in d m alts) in
          ap (λ x. alternative_clause ds k x (pieces_of n items) ∷ rest) e
          ∙ ap (λ xs. with_body name whole xs ∷ rest) (pieces_are (numbering_of whole) n items (of_first n c items alts s))
          ∙ ap (λ cs. lifted_alternative k name whole items ∷ cs)
          (map-append (outline_clause ds k) (outlines_of n items) (outlines_in d m alts)
          ∙ ap (λ cs. cs ++ map (outline_clause ds k) (outlines_in d m alts)) (outlines_are n items (of_first n c items alts s))
          ∙ ap (λ cs. clauses_of_items k items ++ cs) (alternatives_are d m name whole alts e (of_others n c items alts s)))

    pub own_is : (items : SourceItems) → k.body ≡ items → Stand ds 0 (named_in items) → own_clause ds k (pieces_of 0 items) ≡ lifted_clause k
    own_is items e s =
        let new : Numbering = λ q n. n in
        ap (λ xs. let c : Clause = record { head = k.head; body = xs; variables = k.variables; written = k.written; line = k.line } in c)
        (pieces_are new 0 items s ∙ ap (lifted_items new) (sym e))

-- ---- How many nodes there are.
abbrev mutual
  -- those of the items themselves
  pub plain_size : SourceItems → ℕ
  plain_size no_items = 0
  plain_size (plain i items) = item_size i + plain_size items
  plain_size (Source.either name alts items) = plain_size_in alts + plain_size items

  pub plain_size_in : Alternatives → ℕ
  plain_size_in no_alternatives = 0
  plain_size_in (alternative c items alts) = plain_size items + plain_size_in alts

zero-times : (v : ℕ) → 0 * v ≡ 0
zero-times v = omega arith

suc-times : (k v : ℕ) → suc k * v ≡ v + k * v
suc-times k v = grind arith

-- sums of what is counted
sum : (x v o i r p q a l m s t w : ℕ) → x ≡ v → o ≡ i + r → i ≡ p + (w + l) → q + r ≡ a + m → s ≡ l + m → t ≡ v + w → (x + q) + o ≡ (p + a) + (t + s)
sum x v o i r p q a l m s t w e f g h j k = omega arith

total : (x v o i r p q a w l m s t : ℕ) → x ≡ v → o ≡ i + r → q + i ≡ p + l → r ≡ a + (w + m) → s ≡ l + m → t ≡ v + w
    → (x + q) + o ≡ (p + a) + (t + s)
total x v o i r p q a w l m s t e f g h j k = omega arith

lifted_nodes-append : (xs ys : List (ℕ × Alternatives)) → lifted_nodes (xs ++ ys) ≡ lifted_nodes xs + lifted_nodes ys
lifted_nodes-append [] ys = omega arith
lifted_nodes-append (x ∷ xs) ys = omega (arith, lifted_nodes-append xs ys)

outlines_size-append : (ds : List Named) (xs ys : List Outline) → outlines_size ds (xs ++ ys) ≡ outlines_size ds xs + outlines_size ds ys
outlines_size-append ds [] ys = omega arith
outlines_size-append ds (x ∷ xs) ys = omega (arith, outlines_size-append ds xs ys)

module _ (ds : List Named) where
  mutual
    pub whole_size : (n : ℕ) (items : SourceItems) → Stand ds n (named_in items)
        → pieces_size ds (pieces_of n items) + outlines_size ds (outlines_of n items) ≡ plain_size items + lifted_nodes (disjunctions_in_items items)
    whole_size n no_items s = refl
    whole_size n (plain i items) s = omega (arith, whole_size n items s)
    whole_size n (Source.either name alts items) s =
        let m : ℕ = suc n + length (locals_in alts) in
        let v : ℕ = suc (length (distinct_variables alts)) in
        let here : suc (length (named_at ds n).variables) ≡ v = ap (λ (d : Named). suc (length d.variables)) (first ds n name alts items s) in
        let outs : outlines_size ds (outlines_in n (suc n) alts ++ outlines_of m items)
        ≡ outlines_size ds (outlines_in n (suc n) alts) + outlines_size ds (outlines_of m items) =
        outlines_size-append ds (outlines_in n (suc n) alts) (outlines_of m items) in
        let inner : outlines_size ds (outlines_in n (suc n) alts)
        ≡ plain_size_in alts + (count_of alts * v + lifted_nodes (disjunctions_in_alternatives alts)) =
        alternatives_size n (suc n) name alts alts v (first ds n name alts items s) refl (inside ds n name alts items s) in
        let rest : pieces_size ds (pieces_of m items) + outlines_size ds (outlines_of m items) ≡ plain_size items + lifted_nodes (disjunctions_in_items items) =
        whole_size m items (after ds n name alts items s) in
        let split : lifted_nodes (disjunctions_in_alternatives alts ++ disjunctions_in_items items)
        ≡ lifted_nodes (disjunctions_in_alternatives alts) + lifted_nodes (disjunctions_in_items items) =
        lifted_nodes-append (disjunctions_in_alternatives alts) (disjunctions_in_items items) in
        sum _ _ _ _ _ _ _ _ _ _ _ _ _ here outs inner rest split (suc-times (count_of alts) v)

    alternatives_size : (d n name : ℕ) (whole alts : Alternatives) (v : ℕ) → named_at ds d ≡ named_of (name, whole)
        → v ≡ suc (length (distinct_variables whole))
        → Stand ds n (named_alternatives alts)
        → outlines_size ds (outlines_in d n alts) ≡ plain_size_in alts + (count_of alts * v + lifted_nodes (disjunctions_in_alternatives alts))
    alternatives_size d n name whole no_alternatives v e w s = let z : 0 * v ≡ 0 = zero-times v in omega (arith, z)
    alternatives_size d n name whole (alternative c items alts) v e w s =
        let m : ℕ = n + length (locals_of items) in
        let here : suc (length (named_at ds d).variables) ≡ v = ap (λ (x : Named). suc (length x.variables)) e ∙ sym w in
        let outs : outlines_size ds (outlines_of n items ++ outlines_in d m alts)
        ≡ outlines_size ds (outlines_of n items) + outlines_size ds (outlines_in d m alts) =
        outlines_size-append ds (outlines_of n items) (outlines_in d m alts) in
        let own : pieces_size ds (pieces_of n items) + outlines_size ds (outlines_of n items) ≡ plain_size items + lifted_nodes (disjunctions_in_items items) =
        whole_size n items (of_first ds n c items alts s) in
        let rest : outlines_size ds (outlines_in d m alts) ≡ plain_size_in alts + (count_of alts * v + lifted_nodes (disjunctions_in_alternatives alts)) =
        alternatives_size d m name whole alts v e w (of_others ds n c items alts s) in
        let split : lifted_nodes (disjunctions_in_items items ++ disjunctions_in_alternatives alts)
        ≡ lifted_nodes (disjunctions_in_items items) + lifted_nodes (disjunctions_in_alternatives alts) =
        lifted_nodes-append (disjunctions_in_items items) (disjunctions_in_alternatives alts) in
        total _ _ _ _ _ _ _ _ _ _ _ _ _ here outs own rest split (suc-times (count_of alts) v)
