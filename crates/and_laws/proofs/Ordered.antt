-- Lists in order, and what they contain.
use Rattle.std.proofs.Common.{ℕ, ◌≡◌, ◌<◌, List, [], ◌∷◌, ◌++◌, refl, sym, ◌∙◌, subst, inl, inr, ◌⊎◌, arith, zero, suc, length, AllPairs, Contains, get_or}
use Rattle.std.proofs.lemmas.List.Elements.{All-contains, Contains-append_left, Contains-append_right, Contains-append_cases}
use Rattle.and_laws.proofs.Pairwise.{all_pairs_first, all_pairs_rest}

-- what a list with a first element contains
pub contains_first : {X : Type 0} (x : X) (xs : List X) → Contains (x ∷ xs) x
contains_first x xs = (0, omega arith, refl)

pub contains_more : {X : Type 0} (x y : X) (xs : List X) → Contains xs y → Contains (x ∷ xs) y
contains_more x y xs h = let k = h.1 in (suc h.0, omega arith, h.2)

contains_at : {X : Type 0} (x y : X) (xs : List X) (k : ℕ) → k < length (x ∷ xs) → get_or (x ∷ xs) k y ≡ y → (y ≡ x) ⊎ Contains xs y
contains_at x y xs zero h e = inl (sym e)
contains_at x y xs (suc k) h e = inr (k, omega arith, e)

pub contains_cases : {X : Type 0} (x y : X) (xs : List X) → Contains (x ∷ xs) y → (y ≡ x) ⊎ Contains xs y
contains_cases x y xs h = contains_at x y xs h.0 h.1 h.2

pub contains_none : {X : Type 0} (y : X) → Contains [] y → ⊥
contains_none y h = let k = h.1 in absurd (omega arith)

-- one more element in the middle
pub middle_cases : {X : Type 0} (front back : List X) (x y : X) → Contains (front ++ x ∷ back) y → (y ≡ x) ⊎ Contains (front ++ back) y
middle_cases front back x y h = elim (Contains-append_cases front (x ∷ back) y h) [
  | inl i ↦ inr (Contains-append_left front back y i)
  | inr i ↦ elim (contains_cases x y back i) [ inl e ↦ inl e | inr j ↦ inr (Contains-append_right front back y j) ]
]

pub middle_more : {X : Type 0} (front back : List X) (x y : X) → Contains (front ++ back) y → Contains (front ++ x ∷ back) y
middle_more front back x y h = elim (Contains-append_cases front back y h) [
  | inl i ↦ Contains-append_left front (x ∷ back) y i
  | inr i ↦ Contains-append_right front (x ∷ back) y (contains_more x y back i)
]

pub middle_has : {X : Type 0} (front back : List X) (x : X) → Contains (front ++ x ∷ back) x
middle_has front back x = Contains-append_right front (x ∷ back) x (contains_first x back)

-- Lists in a strict order that contain the same elements are the same.
module _ {X : Type 0} (R : X → X → Type 0) (strict : (x y : X) → R x y → R y x → ⊥) where
  first_before : (x : X) (xs : List X) → AllPairs R (x ∷ xs) → (y : X) → Contains xs y → R x y
  first_before x xs r y h = All-contains (R x) xs y (all_pairs_first R x xs r) h

  pub same_elements : (xs ys : List X) → AllPairs R xs → AllPairs R ys → ((z : X) → Contains xs z → Contains ys z)
      → ((z : X) → Contains ys z → Contains xs z) → xs ≡ ys
  same_elements [] [] r s f b = refl
  same_elements [] (y ∷ ys) r s f b = absurd (contains_none y (b y (contains_first y ys)))
  same_elements (x ∷ xs) [] r s f b = absurd (contains_none x (f x (contains_first x xs)))
  same_elements (x ∷ xs) (y ∷ ys) r s f b =
      let one : x ≡ y = elim (contains_cases y x ys (f x (contains_first x xs))) [
        | inl e ↦ e
        | inr h ↦ elim (contains_cases x y xs (b y (contains_first y ys))) [
          | inl e ↦ sym e
          | inr k ↦ absurd (strict x y (first_before x xs r y k) (first_before y ys s x h))
        ]
      ] in
      let rest : xs ≡ ys = same_elements xs ys (all_pairs_rest R x xs r) (all_pairs_rest R y ys s)
      (λ z h. elim (contains_cases y z ys (f z (contains_more x z xs h))) [ inl e ↦ absurd (itself x z xs r h (e ∙ sym one)) | inr k ↦ k ])
      (λ z h. elim (contains_cases x z xs (b z (contains_more y z ys h))) [ inl e ↦ absurd (itself y z ys s h (e ∙ one)) | inr k ↦ k ]) in
      cc
    where
      itself : (x z : X) (xs : List X) → AllPairs R (x ∷ xs) → Contains xs z → z ≡ x → ⊥
      itself x z xs r h e = let p : R x x = subst (λ w. R x w) e (first_before x xs r z h) in strict x x p p
