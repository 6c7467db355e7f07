-- Counts of variables, and their order.
use Rattle.std.proofs.Common.{ℕ, ℤ, zero, suc, ◌+◌, ◌≡◌, ◌<◌, ◌≤◌, ◌||◌, Bool, true, false, cond, eqb, min, List, [], ◌∷◌, ◌++◌, length, map, get_or}
use Rattle.std.proofs.Common.{set, replicate, drop}
use Rattle.std.proofs.Common.{refl, sym, ap, ◌∙◌, arith, ltb, ⊎_elim}
use Rattle.std.specs.List.{flat_map}
use Rattle.std.proofs.lemmas.Bool.{cond_both, ltb-false, ltb-true, cases_eq, eq-eqb, ne_eqb, or_left}
use Rattle.std.proofs.lemmas.List.{get_or-set_same, get_or-set_other, length-set, drop_more, drop_all, map_push}
use Rattle.std.proofs.lemmas.List.Concat.{flat_map-append}
use Rattle.and_model.specs.Terms.{Path, Term, Terms, variable, number, compound, none, more, variables_of, variables_in}
use Rattle.and_model.specs.Lines.{first_seen, has, place_of}
use Rattle.and_model.specs.declared.numbers.NameNo.{NameNo}
use Rattle.and_program.specs.Shown.{shown_term}
use Rattle.and_program.specs.declared.node.NodeKind.TheVariants.{Number, Compound}
use Rattle.and_lint.specs.Findings.{times}
use Rattle.and_lint.specs.Subterms.{subterms, subterms_in}
use Rattle.and_lint.specs.Kept.{IsCountOf, all_counted, counted, one_more, unframed, variable_here}

one_more_of : (x o : ℕ) → min 2 (one_more x + o) ≡ min 2 (x + suc o)
one_more_of x o = cond_both (ltb x 2) (x + 1) x (λ y. min 2 (y + o) ≡ min 2 (x + suc o)) (λ e. omega arith) (λ e. omega (arith, ltb-false x 2 e))

cond_true : {A : Type 0} (b : Bool) (x y : A) → b ≡ true → cond b x y ≡ x
cond_true b x y e = ap (λ (a : Bool). cond a x y) e

cond_false : {A : Type 0} (b : Bool) (x y : A) → b ≡ false → cond b x y ≡ y
cond_false b x y e = ap (λ (a : Bool). cond a x y) e

-- one variable more is counted
counted_at : (c : List ℕ) (j k o : ℕ) → k < length c
    → min 2 (get_or (counted c j) k 0 + o) ≡ min 2 (get_or c k 0 + cond (eqb j k) (suc o) o)
counted_at c j k o lt =
    let v : ℕ = one_more (get_or c j 0) in
    let same : j ≡ k → min 2 (get_or (set c j v) k 0 + o) ≡ min 2 (get_or c k 0 + cond (eqb j k) (suc o) o) = λ e.
    ap (λ (i : ℕ). min 2 (get_or (set c i (one_more (get_or c i 0))) k 0 + o)) e
    ∙ ap (λ (n : ℕ). min 2 (n + o)) (get_or-set_same c k (one_more (get_or c k 0)) 0 lt)
    ∙ one_more_of (get_or c k 0) o
    ∙ ap (λ (n : ℕ). min 2 (get_or c k 0 + n)) (sym (cond_true (eqb j k) (suc o) o (eq-eqb j k e))) in
    let other : (j ≡ k → ⊥) → min 2 (get_or (set c j v) k 0 + o) ≡ min 2 (get_or c k 0 + cond (eqb j k) (suc o) o) = λ ne.
    ap (λ (n : ℕ). min 2 (n + o)) (get_or-set_other c j k v 0 (λ e. ne (sym e)))
    ∙ ap (λ (n : ℕ). min 2 (get_or c k 0 + n)) (sym (cond_false (eqb j k) (suc o) o (ne_eqb j k ne))) in
    ⊎_elim same other (cases_eq j k)

pub length-counted : (c : List ℕ) (k : ℕ) → length (counted c k) ≡ length c
length-counted c k = length-set c k (one_more (get_or c k 0))

pub length-all_counted : (c ks : List ℕ) → length (all_counted c ks) ≡ length c
length-all_counted c [] = refl
length-all_counted c (k ∷ ks) = length-all_counted (counted c k) ks ∙ length-counted c k

one_more_few : (x : ℕ) → x ≤ 2 → one_more x ≤ 2
one_more_few x le = cond_both (ltb x 2) (x + 1) x (λ y. y ≤ 2) (λ e. omega (arith, ltb-true x 2 e)) (λ e. le)

still_few : (c : List ℕ) (j k : ℕ) → k < length c → get_or c k 0 ≤ 2 → get_or (counted c j) k 0 ≤ 2
still_few c j k lt le =
    let v : ℕ = one_more (get_or c j 0) in
    ⊎_elim
    (λ (e : j ≡ k). let is : get_or (set c j v) k 0 ≡ one_more (get_or c k 0) =
    ap (λ (i : ℕ). get_or (set c i (one_more (get_or c i 0))) k 0) e ∙ get_or-set_same c k (one_more (get_or c k 0)) 0 lt in
    let few = one_more_few (get_or c k 0) le in omega arith)
    (λ (ne : j ≡ k → ⊥). let is : get_or (set c j v) k 0 ≡ get_or c k 0 = get_or-set_other c j k v 0 (λ e. ne (sym e)) in omega arith)
    (cases_eq j k)

pub count_is : (c ks : List ℕ) (k : ℕ) → k < length c → get_or c k 0 ≤ 2 → get_or (all_counted c ks) k 0 ≡ min 2 (get_or c k 0 + times k ks)
count_is c [] k lt le = omega arith
count_is c (j ∷ ks) k lt le =
    let long : length (counted c j) ≡ length c = length-counted c j in
    count_is (counted c j) ks k (omega arith) (still_few c j k lt le) ∙ counted_at c j k (times k ks) lt

-- from no counts on
pub counts_tell : (zeros counts ks : List ℕ) → length zeros ≡ 256 → ((k : ℕ) → get_or zeros k 0 ≡ 0) → counts ≡ all_counted zeros ks → IsCountOf counts ks
counts_tell zeros counts ks long empty e = λ k lt.
    let here : get_or (all_counted zeros ks) k 0 ≡ min 2 (get_or zeros k 0 + times k ks) =
    count_is zeros ks k (omega arith) (let zero_here = empty k in omega arith) in
    ap (λ (c : List ℕ). get_or c k 0) e ∙ here ∙ ap (λ (n : ℕ). min 2 (n + times k ks)) (empty k)
    ∙ ap (λ (n : ℕ). min 2 n) (let z : 0 + times k ks ≡ times k ks = omega arith in z)

-- one variable more was counted
pub counted_on : (first now new all : List ℕ) (ks : List ℕ) (i : ℕ) → i < length ks → all_counted now (drop i ks) ≡ all_counted first all
    → new ≡ counted now (get_or ks i 0) → all_counted new (drop (i + 1) ks) ≡ all_counted first all
counted_on first now new all ks i lt e n =
    ap (λ (c : List ℕ). all_counted c (drop (i + 1) ks)) n ∙ ap (λ (js : List ℕ). all_counted now js) (sym (drop_more ks i 0 lt)) ∙ e

-- a count of one is an occurrence alone
pub one_tells : (n o : ℕ) → n ≡ min 2 o → eqb n 1 ≡ eqb o 1
one_tells n o e = ⊎_elim
    (λ (is : o ≡ 1). eq-eqb n 1 (omega arith) ∙ sym (eq-eqb o 1 is))
    (λ (not_one : o ≡ 1 → ⊥). ne_eqb n 1 (λ is. not_one (omega arith)) ∙ sym (ne_eqb o 1 not_one))
    (cases_eq o 1)

mutual
  pub variables_here : (t : Term) → variables_of t ≡ flat_map variable_here (subterms t)
  variables_here (variable q k) = refl
  variables_here (number z) = refl
  variables_here (compound c ts) = variables_here_in ts

  variables_here_in : (ts : Terms) → variables_in ts ≡ flat_map variable_here (subterms_in ts)
  variables_here_in none = refl
  variables_here_in (more t ts) =
      ap (λ (vs : List (Path × ℕ)). vs ++ variables_in ts) (variables_here t)
      ∙ ap (λ (vs : List (Path × ℕ)). flat_map variable_here (subterms t) ++ vs) (variables_here_in ts)
      ∙ sym (flat_map-append variable_here (subterms t) (subterms_in ts))

pub first_seen-append : (seen xs ys : List (Path × ℕ)) → first_seen seen (xs ++ ys) ≡ first_seen (first_seen seen xs) ys
first_seen-append seen [] ys = refl
first_seen-append seen (x ∷ xs) ys = first_seen-append (cond (has x seen) seen (seen ++ x ∷ [])) xs ys

-- what is seen of a node's kind, as the variables of its term are
pub seen_number : (seen : List (Path × ℕ)) (t : Term) (z : ℤ) → Number z ≡ shown_term t → seen ≡ first_seen seen (variable_here t)
seen_number seen (variable q j) z e = absurd (cc)
seen_number seen (number y) z e = refl
seen_number seen (compound d ts) z e = absurd (cc)

pub seen_compound : (seen : List (Path × ℕ)) (t : Term) (d : NameNo) (n : ℕ) → Compound d n ≡ shown_term t → seen ≡ first_seen seen (variable_here t)
seen_compound seen (variable q j) d n e = absurd (cc)
seen_compound seen (number y) d n e = absurd (cc)
seen_compound seen (compound i ts) d n e = refl

pub zeros : (n k : ℕ) → let z : ℕ = 0 in get_or (replicate n z) k z ≡ z
zeros zero k = refl
zeros (suc n) zero = refl
zeros (suc n) (suc k) = zeros n k

-- the variables from a place on
has_from : (k : ℕ) (seen : List ℕ) (i : ℕ) → i < length seen
    → has (unframed k) (map unframed (drop i seen)) ≡ eqb k (get_or seen i 0) || has (unframed k) (map unframed (drop (i + 1) seen))
has_from k seen i lt = ap (λ (ks : List ℕ). has (unframed k) (map unframed ks)) (drop_more seen i 0 lt)

pub has_here : (k : ℕ) (seen : List ℕ) (i : ℕ) → i < length seen → get_or seen i 0 ≡ k → has (unframed k) (map unframed (drop i seen)) ≡ true
has_here k seen i lt e =
    has_from k seen i lt ∙ or_left (eqb k (get_or seen i 0)) (has (unframed k) (map unframed (drop (i + 1) seen))) (eq-eqb k (get_or seen i 0) (sym e))

pub has_later : (k : ℕ) (seen : List ℕ) (i : ℕ) → i < length seen → (get_or seen i 0 ≡ k → ⊥)
    → has (unframed k) (map unframed (drop i seen)) ≡ has (unframed k) (map unframed (drop (i + 1) seen))
has_later k seen i lt ne =
    has_from k seen i lt ∙ ap (λ (b : Bool). b || has (unframed k) (map unframed (drop (i + 1) seen))) (ne_eqb k (get_or seen i 0) (λ e. ne (sym e)))

pub has_none : (k : ℕ) (seen : List ℕ) (i : ℕ) → length seen ≤ i → has (unframed k) (map unframed (drop i seen)) ≡ false
has_none k seen i le = ap (λ (ks : List ℕ). has (unframed k) (map unframed ks)) (drop_all i seen le)

place_from : (k : ℕ) (seen : List ℕ) (i : ℕ) → i < length seen
    → place_of (unframed k) (map unframed (drop i seen))
    ≡ cond (eqb k (get_or seen i 0)) 0 (suc (place_of (unframed k) (map unframed (drop (i + 1) seen))))
place_from k seen i lt = ap (λ (ks : List ℕ). place_of (unframed k) (map unframed ks)) (drop_more seen i 0 lt)

pub place_here : (k : ℕ) (seen : List ℕ) (i : ℕ) → i < length seen → get_or seen i 0 ≡ k → place_of (unframed k) (map unframed (drop i seen)) ≡ 0
place_here k seen i lt e = place_from k seen i lt ∙ cond_true (eqb k (get_or seen i 0)) 0 _ (eq-eqb k (get_or seen i 0) (sym e))

pub place_later : (k : ℕ) (seen : List ℕ) (i : ℕ) → i < length seen → (get_or seen i 0 ≡ k → ⊥)
    → place_of (unframed k) (map unframed (drop i seen)) ≡ suc (place_of (unframed k) (map unframed (drop (i + 1) seen)))
place_later k seen i lt ne = place_from k seen i lt ∙ cond_false (eqb k (get_or seen i 0)) 0 _ (ne_eqb k (get_or seen i 0) (λ e. ne (sym e)))

pub place_none : (k : ℕ) (seen : List ℕ) (i : ℕ) → length seen ≤ i → place_of (unframed k) (map unframed (drop i seen)) ≡ 0
place_none k seen i le = ap (λ (ks : List ℕ). place_of (unframed k) (map unframed ks)) (drop_all i seen le)

pub seen_before : (k : ℕ) (seen : List ℕ) → has (unframed k) (map unframed seen) ≡ true → map unframed seen ≡ first_seen (map unframed seen) (unframed k ∷ [])
seen_before k seen e = sym (cond_true (has (unframed k) (map unframed seen)) (map unframed seen) (map unframed seen ++ unframed k ∷ []) e)

pub seen_first : (k : ℕ) (old new : List ℕ) → has (unframed k) (map unframed old) ≡ false → new ≡ old ++ k ∷ []
    → map unframed new ≡ first_seen (map unframed old) (unframed k ∷ [])
seen_first k old new e n =
    ap (λ (ks : List ℕ). map unframed ks) n
    ∙ map_push unframed old k
    ∙ sym (cond_false (has (unframed k) (map unframed old)) (map unframed old) (map unframed old ++ unframed k ∷ []) e)
