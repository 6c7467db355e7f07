-- Lists in which no two items have one key.
use Rattle.std.proofs.Common.{ℕ, ◌≡◌, ◌≢◌, ◌≤◌, Bool, true, false, cond, List, [], ◌∷◌, refl, sym, ap, subst, arith, All, AllPairs}
use Rattle.std.specs.Prelude.{sum_by, nat_eq}
use Rattle.std.specs.Cmp.Lexicographic.{pointwise, bytes_decides}
use Rattle.std.proofs.lemmas.List.Sums.{sum_by-cons}
use Rattle.std.proofs.lemmas.List.Elements.{All-cons}
use Rattle.std.proofs.lemmas.List.Kept.{AllPairs-cons}
use Rattle.and_laws.proofs.Pairwise.{all_none, all_first, all_rest, all_pairs_none, all_pairs_first, all_pairs_rest}

module _ {X : Type 0} (key_of : X → List ℕ) where
  abbrev pub Differ : X → X → Type 0
  Differ x y = key_of x ≢ key_of y

  -- 1 at an item with the key
  abbrev pub at_item_key : List ℕ → X → ℕ
  at_item_key c y = cond (pointwise nat_eq c (key_of y)) 1 0

  none_at : (c : List ℕ) (xs : List X) → All (λ (y : X). c ≢ key_of y) xs → sum_by (at_item_key c) xs ≡ 0
  none_at c [] apart = refl
  none_at c (y ∷ ys) apart =
      by_test (pointwise nat_eq c (key_of y)) refl (none_at c ys (all_rest (λ (y : X). c ≢ key_of y) y ys apart))
    where
      by_test : (b : Bool) → pointwise nat_eq c (key_of y) ≡ b → sum_by (at_item_key c) ys ≡ 0 → sum_by (at_item_key c) (y ∷ ys) ≡ 0
      by_test true is rest = absurd (all_first (λ (y : X). c ≢ key_of y) y ys apart ((bytes_decides c (key_of y)).0 is))
      by_test false is rest =
          let none : at_item_key c y ≡ 0 = ap (λ b. cond b 1 0) is in
          let whole = sum_by-cons (at_item_key c) y ys in
          omega arith

  all_differ : (c : List ℕ) (xs : List X) → sum_by (at_item_key c) xs ≡ 0 → All (λ (y : X). c ≢ key_of y) xs
  all_differ c [] none = all_none (λ (y : X). c ≢ key_of y)
  all_differ c (y ∷ ys) none =
      let whole = sum_by-cons (at_item_key c) y ys in
      let apart : c ≢ key_of y =
      λ e. (let one : at_item_key c y ≡ 1 = ap (λ b. cond b 1 0) ((bytes_decides c (key_of y)).1 e) in absurd (omega arith)) in
      All-cons (λ (y : X). c ≢ key_of y) y ys apart (all_differ c ys (omega arith))

  pub once_counts : (xs : List X) → AllPairs Differ xs → (c : List ℕ) → sum_by (at_item_key c) xs ≤ 1
  once_counts [] once c = omega arith
  once_counts (x ∷ xs) once c =
      by_test (pointwise nat_eq c (key_of x)) refl (once_counts xs (all_pairs_rest Differ x xs once) c)
    where
      by_test : (b : Bool) → pointwise nat_eq c (key_of x) ≡ b → sum_by (at_item_key c) xs ≤ 1 → sum_by (at_item_key c) (x ∷ xs) ≤ 1
      by_test true is few =
          let same : c ≡ key_of x = (bytes_decides c (key_of x)).0 is in
          let one : at_item_key c x ≡ 1 = ap (λ b. cond b 1 0) is in
          let whole = sum_by-cons (at_item_key c) x xs in
          let rest = none_at c xs (subst (λ z. All (λ (y : X). z ≢ key_of y) xs) (sym same) (all_pairs_first Differ x xs once)) in
          omega arith
      by_test false is few =
          let none : at_item_key c x ≡ 0 = ap (λ b. cond b 1 0) is in
          let whole = sum_by-cons (at_item_key c) x xs in
          omega arith

  pub counts_once : (xs : List X) → ((c : List ℕ) → sum_by (at_item_key c) xs ≤ 1) → AllPairs Differ xs
  counts_once [] few = all_pairs_none Differ
  counts_once (x ∷ xs) few =
      let one : at_item_key (key_of x) x ≡ 1 = ap (λ b. cond b 1 0) ((bytes_decides (key_of x) (key_of x)).1 refl) in
      let whole = sum_by-cons (at_item_key (key_of x)) x xs in
      let most = few (key_of x) in
      AllPairs-cons Differ x xs (all_differ (key_of x) xs (omega arith))
      (counts_once xs (λ c. let here = sum_by-cons (at_item_key c) x xs in omega (arith, here, few c)))
