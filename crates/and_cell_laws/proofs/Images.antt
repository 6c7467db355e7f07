-- What substitutions make of terms, by the variables that stand in them.
use Rattle.std.proofs.Common.{ℕ, ◌≡◌, ◌≤◌, List, [], ◌∷◌, map, sym, ap, subst, inl, inr, arith}
use Rattle.std.specs.Prelude.{Contains}
use Rattle.std.proofs.lemmas.List.Elements.{Contains-append_cases}
use Rattle.and_model.specs.Terms.{Path, Term, Terms, Substitution, variable, number, compound, none, more, apply, apply_all, variables_of, variables_in}
use Rattle.and_laws.specs.Sizes.{size, sizes}
use Rattle.and_laws.proofs.Ordered.{contains_first, contains_more, contains_cases, contains_none}

-- what is in a list is, mapped, in the mapped list,
pub contains_image : {X Y : Type 0} (f : X → Y) (xs : List X) (x : X) → Contains xs x → Contains (map f xs) (f x)
contains_image f [] x h = absurd (contains_none x h)
contains_image f (y ∷ xs) x h = elim (contains_cases y x xs h) [
  | inl e ↦ subst (λ z. Contains (map f (y ∷ xs)) (f z)) (sym e) (contains_first (f y) (map f xs))
  | inr i ↦ contains_more (f y) (f x) (map f xs) (contains_image f xs x i)
]

-- and all that is there was mapped so
pub contains_origin : {X Y : Type 0} (f : X → Y) (xs : List X) (y : Y) → Contains (map f xs) y → (x : X) × Contains xs x × (y ≡ f x)
contains_origin f [] y h = absurd (contains_none y h)
contains_origin f (x ∷ xs) y h = elim (contains_cases (f x) y (map f xs) h) [
  | inl e ↦ (x, contains_first x xs, e)
  | inr i ↦ let (z, at, is) = contains_origin f xs y i in (z, contains_more x z xs at, is)
]

-- what is put for a variable of a term is no larger than what becomes of the term
mutual
  pub image_no_larger : (s : Substitution) (t : Term) (v : Path × ℕ) → Contains (variables_of t) v → size (s v.0 v.1) ≤ size (apply s t)
  image_no_larger s (variable q k) v h = elim (contains_cases (q, k) v [] h) [
    | inl e ↦ let same : size (s v.0 v.1) ≡ size (s q k) = ap (λ (x : Path × ℕ). size (s x.0 x.1)) e in omega (arith, same)
    | inr i ↦ absurd (contains_none v i)
  ]
  image_no_larger s (number z) v h = absurd (contains_none v h)
  image_no_larger s (compound c ts) v h = omega (arith, images_no_larger s ts v h)

  -- the same of a list of terms
  pub images_no_larger : (s : Substitution) (ts : Terms) (v : Path × ℕ) → Contains (variables_in ts) v → size (s v.0 v.1) ≤ sizes (apply_all s ts)
  images_no_larger s none v h = absurd (contains_none v h)
  images_no_larger s (more t ts) v h = elim (Contains-append_cases (variables_of t) (variables_in ts) v h) [
    | inl i ↦ omega (arith, image_no_larger s t v i)
    | inr i ↦ omega (arith, images_no_larger s ts v i)
  ]
