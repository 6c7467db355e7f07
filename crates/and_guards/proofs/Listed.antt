-- Cells on a list, and those that are not on it.
use Rattle.std.proofs.Common.{ℕ, ◌⊎◌, List, [], ◌∷◌, sym, subst, inl, inr}
use Rattle.std.specs.Prelude.{Contains}
use Rattle.std.proofs.lemmas.Bool.{cases_eq}
use Rattle.and_laws.proofs.Ordered.{contains_first, contains_more, contains_cases, contains_none}

-- a number is in a list or not
pub among_or_not : (xs : List ℕ) (x : ℕ) → Contains xs x ⊎ (Contains xs x → ⊥)
among_or_not [] x = inr (λ c. contains_none x c)
among_or_not (y ∷ xs) x = elim (cases_eq x y) [
  | inl e ↦ inl (subst (λ (z : ℕ). Contains (y ∷ xs) z) (sym e) (contains_first y xs))
  | inr other ↦ elim (among_or_not xs x) [
    | inl c ↦ inl (contains_more y x xs c)
    | inr none ↦ inr (λ c. elim (contains_cases y x xs c) [ inl e ↦ other e | inr i ↦ none i ])
  ]
]
