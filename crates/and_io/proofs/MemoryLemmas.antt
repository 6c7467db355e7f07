-- Looking for a number in a list, place by place.
use Rattle.std.proofs.Common.{◌≡◌, ℕ, ◌+◌, ◌<◌, ◌⊎◌, inl, inr, List, slice_index_or, ap, sym, ◌∙◌, arith}

below_next : (a b : ℕ) → a < b + 1 → (a < b) ⊎ (a ≡ b)
below_next a b below = grind arith

-- where the item at the next place is another, no place up to it has the number
pub none_up_to : (xs : List ℕ) (place number : ℕ) → ((before : ℕ) → before < place → slice_index_or xs before number ≡ number → ⊥)
    → (slice_index_or xs place number ≡ number → ⊥) → (before : ℕ) → before < place + 1 → slice_index_or xs before number ≡ number → ⊥
none_up_to xs place number none other before below same = elim (below_next before place below) [
  | inl earlier ↦ none before earlier same
  | inr here ↦ other (ap (λ n. slice_index_or xs n number) (sym here) ∙ same)
]
