-- Loops that go once through a list or a range.
use Rattle.std.proofs.Common.{ℕ, zero, suc, ◌+◌, ◌≡◌, ◌<◌, ◌≤◌, ◌⊎◌, List, [], ◌∷◌, ◌++◌, length, All, get_or, take}
use Rattle.std.proofs.Common.{refl, ap, sym, ◌∙◌, subst, inl, inr, arith, Some}
use Rattle.std.specs.Prelude.{slice_get}
use Rattle.std.proofs.lemmas.Option.{slice_get_within, get_or_from_slice_get, slice_get-get_or}
use Rattle.std.proofs.lemmas.List.{take_more, take_all}
use Rattle.std.proofs.lemmas.List.Elements.{All-push}

module _ {X : Type 0} where
  pub all_next : (P : X → Type 0) (xs : List X) (i : ℕ) (d : X) → All P (take i xs) → i < length xs → P (get_or xs i d) → All P (take (i + 1) xs)
  all_next P xs i d before below one = subst (All P) (sym (take_more xs i d below)) (All-push P (take i xs) (get_or xs i d) before one)

  pub all_done : (P : X → Type 0) (xs : List X) (i : ℕ) → All P (take i xs) → length xs ≤ i → All P xs
  all_done P xs i before over = subst (All P) (take_all i xs over) before

  pub next_got : (xs : List X) (i : ℕ) (x : X) → slice_get xs i ≡ Some x → take (i + 1) xs ≡ take i xs ++ x ∷ []
  next_got xs i x is = take_more xs i x (slice_get_within xs i x is) ∙ ap (λ (y : X). take i xs ++ y ∷ []) (get_or_from_slice_get xs i x x is)

  pub all_at : (P : X → Type 0) (xs : List X) (i : ℕ) (x : X) → All P xs → slice_get xs i ≡ Some x → P x
  all_at P xs i x all is = subst P (get_or_from_slice_get xs i x x is) (all i x (slice_get_within xs i x is))

  pub all_next_got : (P : X → Type 0) (xs : List X) (i : ℕ) (x : X) → All P (take i xs) → slice_get xs i ≡ Some x → P x → All P (take (i + 1) xs)
  all_next_got P xs i x before is one = subst (All P) (sym (next_got xs i x is)) (All-push P (take i xs) x before one)

  -- What stands in range does not depend on what stands for want of it.
  pub any_default : (xs : List X) (i : ℕ) (d e : X) → i < length xs → get_or xs i e ≡ get_or xs i d
  any_default xs i d e below = get_or_from_slice_get xs i (get_or xs i d) e (slice_get-get_or xs i d below)

earlier_or_last : (p n : ℕ) → p < n + 1 → (p < n) ⊎ (p ≡ n)
earlier_or_last zero zero below = inr refl
earlier_or_last zero (suc n) below = inl (omega arith)
earlier_or_last (suc p) zero below = absurd (omega (arith, below))
earlier_or_last (suc p) (suc n) below = elim (earlier_or_last p n (omega (arith, below))) [
  | inl earlier ↦ inl (omega (arith, earlier))
  | inr last ↦ inr (ap suc last)
]

-- What holds of each number below n, and of n, holds of each below n + 1.
pub each_next : (P : ℕ → Type 0) (n : ℕ) → ((p : ℕ) → p < n → P p) → P n → (p : ℕ) → p < n + 1 → P p
each_next P n before last p below = elim (earlier_or_last p n below) [
  | inl earlier ↦ before p earlier
  | inr same ↦ subst P (sym same) last
]
