-- Where elements stand in lists.
use Rattle.std.proofs.Common.{ℕ, ◌+◌, ◌≡◌, ◌≢◌, ◌<◌, ◌≤◌, ◌⊎◌, inl, inr, List, [], ◌∷◌, ◌++◌, map, reverse, refl, sym, ap, subst, ◌∙◌, arith}
use Rattle.std.proofs.Common.{All, Contains, flat_map}
use Rattle.std.proofs.lemmas.List.Concat.{flat_map-append}
use Rattle.std.proofs.lemmas.List.Kept.{AllPairs-cons}
use Rattle.std.proofs.lemmas.List.Sorted.{IsPermutation-reverse, IsPermutation-sym, Contains-permutation}
use Rattle.and_model.specs.Store.{Frame, SideBySide, AreDistinct}
use Rattle.and_store_laws.proofs.Lists.{contains_first, contains_cases, contains_map, map_contains, contains_flat, contains_there}
use Rattle.and_store_laws.proofs.Lists.{distinct_apart, map_append, all_of}
use Rattle.and_store_laws.proofs.Pairwise.{all_first, all_rest, all_pairs_none}

-- ---- Two places of one list

-- They are one, or one of them lies before the other.
pub where_stands : {X : Type 0} (a : List X) (x : X) (b c : List X) (y : X) (d : List X) → a ++ x ∷ b ≡ c ++ y ∷ d
    → ((a ≡ c) × (x ≡ y) × (b ≡ d)) ⊎ (((m : List X) × (c ≡ a ++ x ∷ m)) ⊎ ((m : List X) × (a ≡ c ++ y ∷ m)))
where_stands [] x b [] y d e = let head : x ≡ y = cc in let tail : b ≡ d = cc in inl (refl, head, tail)
where_stands [] x b (z ∷ c) y d e = let head : z ≡ x = cc in inr (inl (c, ap (λ w. w ∷ c) head))
where_stands (z ∷ a) x b [] y d e = let head : z ≡ y = cc in inr (inr (a, ap (λ w. w ∷ a) head))
where_stands (z ∷ a) x b (v ∷ c) y d e =
    let head : z ≡ v = cc in
    let tail : a ++ x ∷ b ≡ c ++ y ∷ d = cc in
    elim (where_stands a x b c y d tail) [
      | inl same ↦ inl (ap (λ l. z ∷ l) same.0 ∙ ap (λ w. w ∷ c) head, same.1, same.2)
      | inr other ↦ elim other [
        | inl first ↦ inr (inl (first.0, ap (λ l. v ∷ l) first.1 ∙ ap (λ w. w ∷ (a ++ x ∷ first.0)) (sym head)))
        | inr last ↦ inr (inr (last.0, ap (λ l. z ∷ l) last.1 ∙ ap (λ w. w ∷ (c ++ y ∷ last.0)) head))
      ]
    ]

-- An element of two lists put together stands in the first one, or is one of the second.
pub stands_in : {X : Type 0} (xs ys before after : List X) (x : X) → xs ++ ys ≡ before ++ x ∷ after
    → ((rest : List X) × (xs ≡ before ++ x ∷ rest)) ⊎ ((m : List X) × (before ≡ xs ++ m))
stands_in [] ys before after x e = inr (before, refl)
stands_in (y ∷ xs) ys [] after x e = let head : y ≡ x = cc in inl (xs, ap (λ w. w ∷ xs) head)
stands_in (y ∷ xs) ys (z ∷ before) after x e =
    let head : y ≡ z = cc in
    let tail : xs ++ ys ≡ before ++ x ∷ after = cc in
    elim (stands_in xs ys before after x tail) [
      | inl r ↦ inl (r.0, ap (λ l. y ∷ l) r.1 ∙ ap (λ w. w ∷ (before ++ x ∷ r.0)) head)
      | inr m ↦ inr (m.0, ap (λ l. z ∷ l) m.1 ∙ ap (λ w. w ∷ (xs ++ m.0)) (sym head))
    ]

-- ---- What is listed of elements that have distinct numbers

module _ {X Y : Type 0} (f : X → List Y) (n : Y → ℕ) where
  apart_later : (a m d : List X) (x y : X) (u v : Y) → AreDistinct (map n (flat_map f ((a ++ x ∷ m) ++ y ∷ d))) → Contains (f x) u → Contains (f y) v
      → n u ≡ n v → ⊥
  apart_later a m d x y u v distinct one other same =
      let parted : AreDistinct (map n (flat_map f (a ++ x ∷ m)) ++ map n (flat_map f (y ∷ d))) =
      subst AreDistinct (ap (map n) (flat_map-append f (a ++ x ∷ m) (y ∷ d)) ∙ map_append n (flat_map f (a ++ x ∷ m)) (flat_map f (y ∷ d))) distinct in
      distinct_apart (map n (flat_map f (a ++ x ∷ m))) (map n (flat_map f (y ∷ d))) (n u) parted
      (contains_map n u (flat_map f (a ++ x ∷ m)) (contains_flat f x u (a ++ x ∷ m) (contains_there a m x) one))
      (subst (Contains (map n (flat_map f (y ∷ d)))) (sym same)
      (contains_map n v (flat_map f (y ∷ d)) (contains_flat f y v (y ∷ d) (contains_first y d) other)))

  -- What has the same number stands at one place.
  pub one_place : (l a b c d : List X) (x y : X) (u v : Y) → AreDistinct (map n (flat_map f l)) → l ≡ a ++ x ∷ b → l ≡ c ++ y ∷ d → Contains (f x) u
      → Contains (f y) v → n u ≡ n v → a ≡ c
  one_place l a b c d x y u v distinct one_is other_is one other same =
      elim (where_stands a x b c y d (sym one_is ∙ other_is)) [
        | inl s ↦ s.0
        | inr r ↦ elim r [
          | inl first ↦ absurd (apart_later a first.0 d x y u v
              (subst (λ l. AreDistinct (map n (flat_map f l))) (other_is ∙ ap (λ l. l ++ y ∷ d) first.1) distinct) one other same)
          | inr last ↦ absurd (apart_later c last.0 b y x v u
              (subst (λ l. AreDistinct (map n (flat_map f l))) (one_is ∙ ap (λ l. l ++ x ∷ b) last.1) distinct) other one (sym same))
        ]
      ]

-- ---- Frames that lie side by side

sides_above : (base : ℕ) (fs : List Frame) → SideBySide base fs → (f : Frame) → Contains fs f → base ≤ f.base
sides_above base [] side f among = absurd (let low = among.1 in omega arith)
sides_above base (g ∷ fs) side f among = elim (contains_cases g f fs among) [
  | inl same ↦ (let at = ap (λ (x : Frame). x.base) same ∙ side.0 in omega arith)
  | inr more ↦ (let above = sides_above (base + g.weight) fs side.1 f more in omega arith)
]

-- No two begin at one place, if none is empty.
pub sides_apart : (base : ℕ) (fs : List Frame) → SideBySide base fs → All (λ (f : Frame). 0 < f.weight) fs
    → AreDistinct (map (λ (f : Frame). f.base) fs)
sides_apart base [] side weigh = all_pairs_none (λ n m. n ≢ m)
sides_apart base (f ∷ fs) side weigh =
    let heavy = all_first (λ (f : Frame). 0 < f.weight) f fs weigh in
    AllPairs-cons (λ n m. n ≢ m) f.base (map (λ (f : Frame). f.base) fs)
    (all_of (λ m. f.base ≢ m) (map (λ (f : Frame). f.base) fs) (λ m among same.
    let (g, there, is) = map_contains (λ (f : Frame). f.base) m fs among in
    let above = sides_above (base + f.weight) fs side.1 g there in
    let begins = side.0 in
    omega arith))
    (sides_apart (base + f.weight) fs side.1 (all_rest (λ (f : Frame). 0 < f.weight) f fs weigh))

-- ---- Reversed lists

pub in_reverse : {X : Type 0} (xs : List X) (x : X) → Contains xs x → Contains (reverse xs) x
in_reverse xs x among = Contains-permutation xs (reverse xs) x (IsPermutation-reverse xs) among

pub of_reverse : {X : Type 0} (xs : List X) (x : X) → Contains (reverse xs) x → Contains xs x
of_reverse xs x among = Contains-permutation (reverse xs) xs x (IsPermutation-sym xs (reverse xs) (IsPermutation-reverse xs)) among
