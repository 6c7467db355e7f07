-- The lexicographic order of codes is what std's comparison of two lists finds, and its laws.
use Rattle.std.proofs.Common.{◌≡◌, ◌<◌, ◌⊎◌, ◌↔◌, ℕ, List, [], ◌∷◌, ◌++◌, map, refl, sym, ap, ◌∙◌, inl, inr, Ordering, Less, Equal, Greater}
use Rattle.std.specs.Ordering.{nat_cmp, ordering_reverse, ordering_then}
use Rattle.std.specs.Cmp.Lexicographic.{slice_cmp}
use Rattle.std.specs.Cmp.{nat_cmp_is}
use Rattle.std.specs.FinMap.{slice_cmp-IsAntisymmetric, nat_cmp-IsAntisymmetric}
use Rattle.std.proofs.lemmas.Cmp.{ranked, by_ranked, tied_itself, nat_cmp_total, nat_list_cmp_total}
use Rattle.and_model.specs.Codes.{Precedes}

-- a proper prefix is found to be less
prefix_less : (short : List ℕ) (clause : ℕ) (rest : List ℕ) → slice_cmp nat_cmp short (short ++ clause ∷ rest) ≡ Less
prefix_less [] clause rest = refl
prefix_less (x ∷ xs) clause rest = rw (tied_itself nat_cmp_total x) (prefix_less xs clause rest)

-- so is what has the smaller number at the first difference
smaller_less : (common : List ℕ) (small large : ℕ) (rest others : List ℕ) → small < large
    → slice_cmp nat_cmp (common ++ small ∷ rest) (common ++ large ∷ others) ≡ Less
smaller_less [] small large rest others below = rw (sym (nat_cmp_is small large Less below)) refl
smaller_less (x ∷ xs) small large rest others below = rw (tied_itself nat_cmp_total x) (smaller_less xs small large rest others below)

pub precedes_less : (one other : List ℕ) → Precedes one other → slice_cmp nat_cmp one other ≡ Less
precedes_less one other (inl (clause, rest, goes_on)) = rw goes_on (prefix_less one clause rest)
precedes_less one other (inr (common, small, large, rest, others, below, starts, goes_on)) =
    rw (starts, goes_on) (smaller_less common small large rest others below)

-- a number in front of both changes nothing
precedes_cons : (x : ℕ) (xs ys : List ℕ) → Precedes xs ys → Precedes (x ∷ xs) (x ∷ ys)
precedes_cons x xs ys (inl (clause, rest, goes_on)) = inl (clause, rest, ap (λ l. x ∷ l) goes_on)
precedes_cons x xs ys (inr (common, small, large, rest, others, below, starts, goes_on)) =
    inr (x ∷ common, small, large, rest, others, below, ap (λ l. x ∷ l) starts, ap (λ l. x ∷ l) goes_on)

pub less_precedes : (one other : List ℕ) → slice_cmp nat_cmp one other ≡ Less → Precedes one other
less_precedes [] [] less = cc
less_precedes [] (y ∷ ys) less = inl (y, ys, refl)
less_precedes (x ∷ xs) [] less = cc
less_precedes (x ∷ xs) (y ∷ ys) less =
    by_ranked (x < y) (x ≡ y) (y < x) (nat_cmp x y) (ranked x y _ refl)
    (λ _ below. inr ([], x, y, xs, ys, below, refl, refl))
    (λ ties same. rw (sym same) (precedes_cons x xs ys (less_precedes xs ys (rw ties at less))))
    (λ above _. absurd (let clash = rw above at less in cc))

equal_same : (one other : List ℕ) → slice_cmp nat_cmp one other ≡ Equal → one ≡ other
equal_same one other = slice_cmp-IsAntisymmetric nat_cmp-IsAntisymmetric one other

same_equal : (one other : List ℕ) → one ≡ other → slice_cmp nat_cmp one other ≡ Equal
same_equal one other same = rw same (tied_itself nat_list_cmp_total other)

greater_less : (one other : List ℕ) → slice_cmp nat_cmp one other ≡ Greater → slice_cmp nat_cmp other one ≡ Less
greater_less one other greater = nat_list_cmp_total.antisymm other one ∙ ap ordering_reverse greater

less_greater : (one other : List ℕ) → slice_cmp nat_cmp other one ≡ Less → slice_cmp nat_cmp one other ≡ Greater
less_greater one other less = nat_list_cmp_total.antisymm one other ∙ ap ordering_reverse less

-- what each answer says
pub answers_less : (one other : List ℕ) (o : Ordering) → o ≡ slice_cmp nat_cmp one other → (o ≡ Less) ↔ Precedes one other
answers_less one other o is =
    (λ less. less_precedes one other (sym is ∙ less), λ before. is ∙ precedes_less one other before)

pub answers_equal : (one other : List ℕ) (o : Ordering) → o ≡ slice_cmp nat_cmp one other → (o ≡ Equal) ↔ (one ≡ other)
answers_equal one other o is = (λ equal. equal_same one other (sym is ∙ equal), λ same. is ∙ same_equal one other same)

pub answers_greater : (one other : List ℕ) (o : Ordering) → o ≡ slice_cmp nat_cmp one other → (o ≡ Greater) ↔ Precedes other one
answers_greater one other o is =
    (λ greater. less_precedes other one (greater_less one other (sym is ∙ greater)), λ after. is ∙ less_greater one other (precedes_less other one after))

-- things that are compared by their numbers
pub slice_cmp-map : {A : Type 0} (number : A → ℕ) (R : A → A → Ordering) → ((x y : A) → R x y ≡ nat_cmp (number x) (number y)) → (xs ys : List A)
    → slice_cmp R xs ys ≡ slice_cmp nat_cmp (map number xs) (map number ys)
slice_cmp-map number R same [] [] = refl
slice_cmp-map number R same [] (y ∷ ys) = refl
slice_cmp-map number R same (x ∷ xs) [] = refl
slice_cmp-map number R same (x ∷ xs) (y ∷ ys) = λ i. ordering_then (same x y i) (slice_cmp-map number R same xs ys i)

pub precedes_irreflexive : (one : List ℕ) → Precedes one one → ⊥
precedes_irreflexive one before =
    let less = precedes_less one one before in
    let equal = same_equal one one refl in
    cc

pub precedes_asymmetric : (one other : List ℕ) → Precedes one other → Precedes other one → ⊥
precedes_asymmetric one other before after =
    let less = precedes_less one other before in
    let greater = less_greater one other (precedes_less other one after) in
    cc

pub precedes_total : (one other : List ℕ) → Precedes one other ⊎ (one ≡ other) ⊎ Precedes other one
precedes_total one other = total_by (slice_cmp nat_cmp one other) refl
  where
    total_by : (o : Ordering) → slice_cmp nat_cmp one other ≡ o → Precedes one other ⊎ (one ≡ other) ⊎ Precedes other one
    total_by Less less = inl (less_precedes one other less)
    total_by Equal equal = inr (inl (equal_same one other equal))
    total_by Greater greater = inr (inr (less_precedes other one (greater_less one other greater)))

pub precedes_transitive : (one two three : List ℕ) → Precedes one two → Precedes two three → Precedes one three
precedes_transitive one two three first second =
    less_precedes one three (nat_list_cmp_total.trans one two three (precedes_less one two first) (precedes_less two three second))
