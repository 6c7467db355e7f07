-- The sizes of a body do not depend on numbers and names, and are within those of its term.
use Rattle.std.proofs.Common.{ℕ, suc, ◌+◌, ◌*◌, length, ◌≡◌, ◌<◌, ◌≤◌, Bool, true, false, cond, nat_eq, List, [], ◌∷◌, ◌++◌, map, Option, Some, None}
use Rattle.std.proofs.Common.{refl, ap, sym, ◌∙◌, arith, subst}
use Rattle.std.specs.Prelude.{All}
use Rattle.std.proofs.lemmas.List.{map-append}
use Rattle.std.proofs.lemmas.List.Elements.{All-nil, All-cons, All-head, All-tail}
use Rattle.and_model.specs.Terms
use Rattle.and_model.specs.Terms.{Path, Term, Terms, variables_of}
use Rattle.and_model.specs.Arithmetic.{Relation}
use Rattle.and_model.specs.Programs.{call}
use Rattle.and_model.specs.Stands.{item_term}
use Rattle.and_model.specs.OwnVariables.{IsOwn}
use Rattle.and_model.specs.Lines.{first_seen}
use Rattle.and_source.specs.Source.{SourceItems, no_items, plain, either, Alternatives, no_alternatives, alternative, variables_of_items, distinct_variables}
use Rattle.and_source.specs.Source.{variables_of_alternatives, disjunctions_in_items}
use Rattle.and_source.specs.Source.{disjunctions_in_alternatives}
use Rattle.and_syntax.specs.Clauses
use Rattle.and_syntax.specs.Clauses.{Parts, no_parts, impure, Choices, no_choices, choice, Reading, joined, alone, reading_of, parts_of, head_of, body_of}
use Rattle.and_syntax.specs.Clauses.{asked_of}
use Rattle.and_syntax.specs.Clauses.{alternatives_of, alternatives_in, disjunctions_of, disjunctions_within, numbered, numbered_in, compare_or, relation_of}
use Rattle.and_syntax.specs.Clauses.{binary_part}
use Rattle.and_syntax.specs.Tables.{count_of, lifted_nodes}
use Rattle.and_judging.specs.Outlined.{size_of, size_in}
use Rattle.and_judging.specs.Sorted.{Local, local_of, locals_of, locals_in, locals_size}
use Rattle.and_judging.specs.Sorts.{AreFew, AreNarrow}
use Rattle.and_judging.proofs.Distinct.{distinct_few}

joined_locals : (alts : Alternatives) (items : SourceItems)
    → map (λ (d : ℕ × Alternatives). local_of d.1) (disjunctions_in_alternatives alts ++ disjunctions_in_items items) ≡ locals_in alts ++ locals_of items
joined_locals alts items = map-append (λ (d : ℕ × Alternatives). local_of d.1) (disjunctions_in_alternatives alts) (disjunctions_in_items items)

turned_locals : (items : SourceItems) (alts : Alternatives)
    → map (λ (d : ℕ × Alternatives). local_of d.1) (disjunctions_in_items items ++ disjunctions_in_alternatives alts) ≡ locals_of items ++ locals_in alts
turned_locals items alts = map-append (λ (d : ℕ × Alternatives). local_of d.1) (disjunctions_in_items items) (disjunctions_in_alternatives alts)

-- ---- Other numbers and names.
module _ (f g : ℕ → ℕ) where
  mutual
    same_variables : (c d e k : ℕ) (ps : Parts) → variables_of_items (numbered f c d ps) ≡ variables_of_items (numbered g e k ps)
    same_variables c d e k no_parts = refl
    same_variables c d e k (Clauses.item i ps) = ap (λ vs. variables_of (item_term i) ++ vs) (same_variables c d e k ps)
    same_variables c d e k (impure ps) = same_variables c d e k ps
    same_variables c d e k (Clauses.either cs ps) =
        let later : SourceItems = numbered f (c + alternatives_in cs) (suc (d + disjunctions_within cs)) ps in
        ap (λ vs. vs ++ variables_of_items later) (same_variables_in c (suc d) e (suc k) cs)
        ∙ ap (λ vs. variables_of_alternatives (numbered_in g e (suc k) cs) ++ vs)
        (same_variables (c + alternatives_in cs) (suc (d + disjunctions_within cs)) (e + alternatives_in cs) (suc (k + disjunctions_within cs)) ps)

    same_variables_in : (c d e k : ℕ) (cs : Choices) → variables_of_alternatives (numbered_in f c d cs) ≡ variables_of_alternatives (numbered_in g e k cs)
    same_variables_in c d e k no_choices = refl
    same_variables_in c d e k (choice ps cs) =
        let later : Alternatives = numbered_in f (suc (c + alternatives_of ps)) (d + disjunctions_of ps) cs in
        ap (λ vs. vs ++ variables_of_alternatives later) (same_variables (suc c) d (suc e) k ps)
        ∙ ap (λ vs. variables_of_items (numbered g (suc e) k ps) ++ vs)
        (same_variables_in (suc (c + alternatives_of ps)) (d + disjunctions_of ps) (suc (e + alternatives_of ps)) (k + disjunctions_of ps) cs)

  same_count : (c d e k : ℕ) (cs : Choices) → count_of (numbered_in f c d cs) ≡ count_of (numbered_in g e k cs)
  same_count c d e k no_choices = refl
  same_count c d e k (choice ps cs) =
      ap suc (same_count (suc (c + alternatives_of ps)) (d + disjunctions_of ps) (suc (e + alternatives_of ps)) (k + disjunctions_of ps) cs)

  same_local : (c d e k : ℕ) (cs : Choices) → local_of (numbered_in f c d cs) ≡ local_of (numbered_in g e k cs)
  same_local c d e k cs =
      let made : List (Path × ℕ) → ℕ → Local = λ vs n. record { variables = first_seen [] vs; count = n } in
      ap (λ vs. made vs (count_of (numbered_in f c d cs))) (same_variables_in c d e k cs)
      ∙ ap (made (variables_of_alternatives (numbered_in g e k cs))) (same_count c d e k cs)

  mutual
    pub same_locals : (c d e k : ℕ) (ps : Parts) → locals_of (numbered f c d ps) ≡ locals_of (numbered g e k ps)
    same_locals c d e k no_parts = refl
    same_locals c d e k (Clauses.item i ps) = same_locals c d e k ps
    same_locals c d e k (impure ps) = same_locals c d e k ps
    same_locals c d e k (Clauses.either cs ps) =
        let one : Alternatives = numbered_in f c (suc d) cs in
        let two : Alternatives = numbered_in g e (suc k) cs in
        let first : SourceItems = numbered f (c + alternatives_in cs) (suc (d + disjunctions_within cs)) ps in
        let other : SourceItems = numbered g (e + alternatives_in cs) (suc (k + disjunctions_within cs)) ps in
        ap (λ ls. local_of one ∷ ls) (joined_locals one first)
        ∙ ap (λ l. l ∷ locals_in one ++ locals_of first) (same_local c (suc d) e (suc k) cs)
        ∙ ap (λ ls. local_of two ∷ ls ++ locals_of first) (same_locals_in c (suc d) e (suc k) cs)
        ∙ ap (λ ls. local_of two ∷ locals_in two ++ ls)
        (same_locals (c + alternatives_in cs) (suc (d + disjunctions_within cs)) (e + alternatives_in cs) (suc (k + disjunctions_within cs)) ps)
        ∙ ap (λ ls. local_of two ∷ ls) (sym (joined_locals two other))

    same_locals_in : (c d e k : ℕ) (cs : Choices) → locals_in (numbered_in f c d cs) ≡ locals_in (numbered_in g e k cs)
    same_locals_in c d e k no_choices = refl
    same_locals_in c d e k (choice ps cs) =
        let one : SourceItems = numbered f (suc c) d ps in
        let two : SourceItems = numbered g (suc e) k ps in
        let first : Alternatives = numbered_in f (suc (c + alternatives_of ps)) (d + disjunctions_of ps) cs in
        let other : Alternatives = numbered_in g (suc (e + alternatives_of ps)) (k + disjunctions_of ps) cs in
        turned_locals one first
        ∙ ap (λ ls. ls ++ locals_in first) (same_locals (suc c) d (suc e) k ps)
        ∙ ap (λ ls. locals_of two ++ ls)
        (same_locals_in (suc (c + alternatives_of ps)) (d + disjunctions_of ps) (suc (e + alternatives_of ps)) (k + disjunctions_of ps) cs)
        ∙ sym (turned_locals two other)

-- ---- Few alternatives.
few_both : (n : ℕ) (ls ks : List Local) → AreFew n ls → AreFew n ks → AreFew n (ls ++ ks)
few_both n [] ks a b = b
few_both n (l ∷ ls) ks a b = (a.0, few_both n ls ks a.1 b)

module _ (f : ℕ → ℕ) (n : ℕ) where
  count_few : (c d : ℕ) (cs : Choices) → count_of (numbered_in f c d cs) ≤ alternatives_in cs
  count_few c d no_choices = omega arith
  count_few c d (choice ps cs) = omega (arith, count_few (suc (c + alternatives_of ps)) (d + disjunctions_of ps) cs)

  mutual
    pub locals_few : (c d : ℕ) (ps : Parts) → alternatives_of ps ≤ n → AreFew n (locals_of (numbered f c d ps))
    locals_few c d no_parts le = tt
    locals_few c d (Clauses.item i ps) le = locals_few c d ps le
    locals_few c d (impure ps) le = locals_few c d ps le
    locals_few c d (Clauses.either cs ps) le =
        let alts : Alternatives = numbered_in f c (suc d) cs in
        let items : SourceItems = numbered f (c + alternatives_in cs) (suc (d + disjunctions_within cs)) ps in
        let both = few_both n (locals_in alts) (locals_of items) (locals_few_in c (suc d) cs (omega arith))
        (locals_few (c + alternatives_in cs) (suc (d + disjunctions_within cs)) ps (omega arith)) in
        (omega (arith, count_few c (suc d) cs), subst (AreFew n) (sym (joined_locals alts items)) both)

    locals_few_in : (c d : ℕ) (cs : Choices) → alternatives_in cs ≤ n → AreFew n (locals_in (numbered_in f c d cs))
    locals_few_in c d no_choices le = tt
    locals_few_in c d (choice ps cs) le =
        let items : SourceItems = numbered f (suc c) d ps in
        let alts : Alternatives = numbered_in f (suc (c + alternatives_of ps)) (d + disjunctions_of ps) cs in
        let both = few_both n (locals_of items) (locals_in alts) (locals_few (suc c) d ps (omega arith))
        (locals_few_in (suc (c + alternatives_of ps)) (d + disjunctions_of ps) cs (omega arith)) in
        subst (AreFew n) (sym (turned_locals items alts)) both

-- ---- Few variables.
narrow_both : (n : ℕ) (ls ks : List Local) → AreNarrow n ls → AreNarrow n ks → AreNarrow n (ls ++ ks)
narrow_both n [] ks a b = b
narrow_both n (l ∷ ls) ks a b = (a.0, narrow_both n ls ks a.1 b)

all_front : {X : Type 0} (P : X → Type 0) (xs ys : List X) → All P (xs ++ ys) → All P xs
all_front P [] ys a = All-nil P
all_front P (x ∷ xs) ys a = All-cons P x xs (All-head P x (xs ++ ys) a) (all_front P xs ys (All-tail P x (xs ++ ys) a))

all_back : {X : Type 0} (P : X → Type 0) (xs ys : List X) → All P (xs ++ ys) → All P ys
all_back P [] ys a = a
all_back P (x ∷ xs) ys a = all_back P xs ys (All-tail P x (xs ++ ys) a)

module _ (n : ℕ) where
  mutual
    pub locals_narrow : (items : SourceItems) → All (IsOwn n) (variables_of_items items) → AreNarrow n (locals_of items)
    locals_narrow no_items a = tt
    locals_narrow (plain i items) a = locals_narrow items (all_back (IsOwn n) (variables_of (item_term i)) (variables_of_items items) a)
    locals_narrow (either name alts items) a =
        let front = all_front (IsOwn n) (variables_of_alternatives alts) (variables_of_items items) a in
        let back = all_back (IsOwn n) (variables_of_alternatives alts) (variables_of_items items) a in
        let both = narrow_both n (locals_in alts) (locals_of items) (locals_narrow_in alts front) (locals_narrow items back) in
        (distinct_few n (variables_of_alternatives alts) front, subst (AreNarrow n) (sym (joined_locals alts items)) both)

    locals_narrow_in : (alts : Alternatives) → All (IsOwn n) (variables_of_alternatives alts) → AreNarrow n (locals_in alts)
    locals_narrow_in no_alternatives a = tt
    locals_narrow_in (alternative c items alts) a =
        let front = all_front (IsOwn n) (variables_of_items items) (variables_of_alternatives alts) a in
        let back = all_back (IsOwn n) (variables_of_items items) (variables_of_alternatives alts) a in
        let both = narrow_both n (locals_of items) (locals_in alts) (locals_narrow items front) (locals_narrow_in alts back) in
        subst (AreNarrow n) (sym (turned_locals items alts)) both

pub narrow_more : (n m : ℕ) (ls : List Local) → n ≤ m → AreNarrow n ls → AreNarrow m ls
narrow_more n m [] le a = tt
narrow_more n m (l ∷ ls) le a = (omega (arith, a.0), narrow_more n m ls le a.1)

-- ---- Fewer alternatives than nodes.
joined_alternatives : (ps qs : Parts) → alternatives_of (joined ps qs) ≡ alternatives_of ps + alternatives_of qs
joined_alternatives no_parts qs = omega arith
joined_alternatives (Clauses.item i ps) qs = joined_alternatives ps qs
joined_alternatives (impure ps) qs = joined_alternatives ps qs
joined_alternatives (Clauses.either cs ps) qs = omega (arith, joined_alternatives ps qs)

-- a reading has fewer than n alternatives in its body, and at most n as a last operand
abbrev Short : ℕ → Reading → Type 0
Short n r = (alternatives_of r.body < n) × (alternatives_in r.last ≤ n)

none_short : (n : ℕ) (ps : Parts) → alternatives_of ps ≡ 0 → Short (suc n) (alone ps)
none_short n ps e = (omega arith, omega arith)

no_either : (b : Bool) (ps qs : Parts) → alternatives_of ps ≡ 0 → alternatives_of qs ≡ 0 → alternatives_of (cond b ps qs) ≡ 0
no_either true ps qs h k = h
no_either false ps qs h k = k

no_relation : (o : Option Relation) (a b : Term) (ps : Parts) → alternatives_of ps ≡ 0 → alternatives_of (compare_or o a b ps) ≡ 0
no_relation None a b ps k = k
no_relation (Some r) a b ps k = refl

no_binary : (c : ℕ) (a b : Term) → alternatives_of (binary_part c a b) ≡ 0
no_binary c a b =
    no_either (nat_eq c 3) _ _ refl (no_either (nat_eq c 4) _ _ refl (no_relation (relation_of c) a b _ (no_either (nat_eq c 22) _ _ refl refl)))

two_short : (n : ℕ) (b : Bool) (r s : Reading) → Short n r → Short n s → Short n (cond b r s)
two_short n true r s h k = h
two_short n false r s h k = k

reading_short : (t : Term) → Short (size_of t) (reading_of t)
reading_short (Terms.variable q k) = (omega arith, omega arith)
reading_short (Terms.number z) = (omega arith, omega arith)
reading_short (Terms.compound c Terms.none) =
    none_short 0 (Clauses.atom_parts c) (no_either (nat_eq c 0) _ _ refl (no_either (nat_eq c 1) _ _ refl (no_either (nat_eq c 24) _ _ refl refl)))
reading_short (Terms.compound c (Terms.more a Terms.none)) =
    none_short (size_of a + 0) (Clauses.unary_part c a) (no_either (nat_eq c 23) _ _ refl refl)
reading_short (Terms.compound c (Terms.more a (Terms.more b Terms.none))) =
    let n : ℕ = size_of a + (size_of b + 0) in
    let x : Short (size_of a) (reading_of a) = reading_short a in
    let y : Short (size_of b) (reading_of b) = reading_short b in
    let j : alternatives_of (joined (parts_of a) (parts_of b)) ≡ alternatives_of (parts_of a) + alternatives_of (parts_of b) =
    joined_alternatives (parts_of a) (parts_of b) in
    two_short (suc n) (nat_eq c 2) _ _ (omega (arith, j, x.0, y.0), omega (arith, j, x.0, y.0))
    (two_short (suc n) (nat_eq c 21) _ _ (omega (arith, x.0, y.1), omega (arith, x.0, y.1)) (none_short n (binary_part c a b) (no_binary c a b)))
reading_short (Terms.compound c (Terms.more a (Terms.more b (Terms.more d ts)))) =
    none_short (size_of a + (size_of b + (size_of d + size_in ts)))
    (Clauses.item (call (Terms.compound c (Terms.more a (Terms.more b (Terms.more d ts))))) no_parts) refl

-- of a clause, and of a query
pub clause_short : (t : Term) → alternatives_of (body_of t) ≤ size_of t
clause_short (Terms.variable q k) = omega arith
clause_short (Terms.number z) = omega arith
clause_short (Terms.compound c Terms.none) = omega arith
clause_short (Terms.compound c (Terms.more a Terms.none)) = omega arith
clause_short (Terms.compound c (Terms.more a (Terms.more b Terms.none))) = by (nat_eq c 25) (reading_short b).0
  where
    by : (d : Bool) → alternatives_of (parts_of b) < size_of b
        → alternatives_of (cond d (parts_of b) no_parts) ≤ size_of (Terms.compound c (Terms.more a (Terms.more b Terms.none)))
    by true le = omega arith
    by false le = omega arith
clause_short (Terms.compound c (Terms.more a (Terms.more b (Terms.more d ts)))) = omega arith

pub query_short : (t : Term) → alternatives_of (asked_of t) ≤ size_of t
query_short (Terms.variable q k) = omega arith
query_short (Terms.number z) = omega arith
query_short (Terms.compound c Terms.none) = omega arith
query_short (Terms.compound c (Terms.more b Terms.none)) = omega (arith, (reading_short b).0)
query_short (Terms.compound c (Terms.more a (Terms.more b ts))) = omega arith

abbrev weight : ℕ × Alternatives → ℕ
weight d = suc (count_of d.1) * suc (length (distinct_variables d.1))

-- the nodes of the calls and heads of disjunctions, as they are counted
pub locals_size_is : (ds : List (ℕ × Alternatives)) → locals_size (map (λ (d : ℕ × Alternatives). local_of d.1) ds) ≡ lifted_nodes ds
locals_size_is [] = refl
locals_size_is (d ∷ ds) = ap (λ n. weight d + n) (locals_size_is ds)
