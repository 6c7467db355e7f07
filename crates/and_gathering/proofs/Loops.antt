-- Loops that go once through a list.
use Rattle.std.proofs.Common.{ℕ, ◌+◌, ◌≡◌, ◌<◌, ◌≤◌, List, [], ◌∷◌, ◌++◌, length, All, get_or, take}
use Rattle.std.proofs.Common.{ap, sym, ◌∙◌, subst, refl, arith, Some}
use Rattle.std.specs.Prelude.{slice_get}
use Rattle.std.proofs.lemmas.Option.{slice_get_within, get_or_from_slice_get}
use Rattle.std.proofs.lemmas.List.{take_more, take_all}
use Rattle.std.proofs.lemmas.List.Elements.{All-push}

module _ {X : Type 0} where
  pub all_next : (P : X → Type 0) (xs : List X) (i : ℕ) (x : X) → All P (take i xs) → i < length xs → x ≡ get_or xs i x → P x
      → All P (take (i + 1) xs)
  all_next P xs i x before below is one =
      subst (All P) (sym (take_more xs i x below)) (All-push P (take i xs) (get_or xs i x) before (subst P is one))

  pub all_done : (P : X → Type 0) (xs : List X) (i : ℕ) → All P (take i xs) → length xs ≤ i → All P xs
  all_done P xs i before over = subst (All P) (take_all i xs over) before

  pub next_got : (xs : List X) (i : ℕ) (x : X) → slice_get xs i ≡ Some x → take (i + 1) xs ≡ take i xs ++ x ∷ []
  next_got xs i x is = take_more xs i x (slice_get_within xs i x is) ∙ ap (λ (y : X). take i xs ++ y ∷ []) (get_or_from_slice_get xs i x x is)

  pub none_of : (xs : List X) → length xs ≡ 0 → xs ≡ []
  none_of [] long = refl
  none_of (x ∷ xs) long = absurd (omega (arith, long))
