-- What a list contains, from its first element on.
use Rattle.std.proofs.Common.{ℕ, zero, suc, ◌<◌, ◌≡◌, ◌⊎◌, inl, inr, List, [], ◌∷◌, map, length, get_or, refl, sym, subst, arith}
use Rattle.std.specs.Prelude.{Contains}

pub among_first : {X : Type 0} (x : X) (xs : List X) → Contains (x ∷ xs) x
among_first x xs = (0, omega arith, refl)

pub among_more : {X : Type 0} (x y : X) (xs : List X) → Contains xs y → Contains (x ∷ xs) y
among_more x y xs has = let below = has.1 in (suc has.0, omega arith, has.2)

among_at : {X : Type 0} (x y : X) (xs : List X) (k : ℕ) → k < length (x ∷ xs) → get_or (x ∷ xs) k y ≡ y → (y ≡ x) ⊎ Contains xs y
among_at x y xs zero below is = inl (sym is)
among_at x y xs (suc k) below is = inr (k, omega arith, is)

pub among_cases : {X : Type 0} (x y : X) (xs : List X) → Contains (x ∷ xs) y → (y ≡ x) ⊎ Contains xs y
among_cases x y xs has = among_at x y xs has.0 has.1 has.2

pub among_none : {X : Type 0} (y : X) → Contains [] y → ⊥
among_none y has = let below = has.1 in absurd (omega arith)

pub among_map : {X Y : Type 0} (f : X → Y) (x : X) (xs : List X) → Contains xs x → Contains (map f xs) (f x)
among_map f x [] has = absurd (among_none x has)
among_map f x (y ∷ ys) has = elim (among_cases y x ys has) [
  | inl same ↦ subst (λ z. Contains (map f (y ∷ ys)) (f z)) (sym same) (among_first (f y) (map f ys))
  | inr rest ↦ among_more (f y) (f x) (map f ys) (among_map f x ys rest)
]

pub map_among : {X Y : Type 0} (f : X → Y) (y : Y) (xs : List X) → Contains (map f xs) y → (x : X) × Contains xs x × (f x ≡ y)
map_among f y [] has = absurd (among_none y has)
map_among f y (x ∷ xs) has = elim (among_cases (f x) y (map f xs) has) [
  | inl same ↦ (x, among_first x xs, sym same)
  | inr rest ↦ (let (z, among, is) = map_among f y xs rest in (z, among_more x z xs among, is))
]
