-- Lists that are mapped.
use Rattle.std.proofs.Common.{ℕ, zero, suc, ◌≡◌, ◌<◌, List, [], ◌∷◌, map, length, get_or, refl, sym}
use Rattle.std.proofs.Common.{subst, inl, inr, arith}
use Rattle.std.specs.Prelude.{Contains}
use Rattle.and_laws.proofs.Ordered.{contains_first, contains_more, contains_cases, contains_none}

-- what is in a list is, mapped, in the mapped list,
pub contains_image : {X Y : Type 0} (f : X → Y) (xs : List X) (x : X) → Contains xs x → Contains (map f xs) (f x)
contains_image f [] x h = absurd (contains_none x h)
contains_image f (y ∷ xs) x h = elim (contains_cases y x xs h) [
  | inl e ↦ subst (λ z. Contains (map f (y ∷ xs)) (f z)) (sym e) (contains_first (f y) (map f xs))
  | inr i ↦ contains_more (f y) (f x) (map f xs) (contains_image f xs x i)
]

-- and all that is there was mapped so
pub contains_origin : {X Y : Type 0} (f : X → Y) (xs : List X) (y : Y) → Contains (map f xs) y → (x : X) × Contains xs x × (y ≡ f x)
contains_origin f [] y h = absurd (contains_none y h)
contains_origin f (x ∷ xs) y h = elim (contains_cases (f x) y (map f xs) h) [
  | inl e ↦ (x, contains_first x xs, e)
  | inr i ↦ let (z, at, is) = contains_origin f xs y i in (z, contains_more x z xs at, is)
]

-- an element in range does not depend on the default
pub default_apart : {X : Type 0} (xs : List X) (i : ℕ) (d e : X) → i < length xs → get_or xs i d ≡ get_or xs i e
default_apart [] i d e low = absurd (omega arith)
default_apart (x ∷ xs) zero d e low = refl
default_apart (x ∷ xs) (suc i) d e low = default_apart xs i d e (omega arith)
