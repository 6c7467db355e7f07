-- Lists with the same items contain the same, where items are told apart by a test.
use Rattle.std.proofs.Common.{ℕ, ◌≡◌, ◌≤◌, ◌↔◌, Bool, true, false, cond, List, [], ◌∷◌, length, refl, sym, ap, ◌∙◌, subst, arith, Contains, inl, inr}
use Rattle.std.specs.Prelude.{sum_by}
use Rattle.std.proofs.lemmas.List.Sums.{sum_by-cons}
use Rattle.and_laws.proofs.Ordered.{contains_first, contains_more, contains_none, contains_cases}
use Rattle.and_histories.proofs.CoveringForks.{length_sum}
use Rattle.and_team_laws.specs.Owed.{SameItems}

module _ {A : Type 0} (is_same : A → A → Bool) (same : (x y : A) → is_same x y ≡ true → x ≡ y) (own : (x : A) → is_same x x ≡ true) where
  -- 1 at the item
  abbrev pub at_item : A → A → ℕ
  at_item x y = cond (is_same x y) 1 0

  pub contains_counts : (x : A) (xs : List A) → Contains xs x → 1 ≤ sum_by (at_item x) xs
  contains_counts x [] h = absurd (contains_none x h)
  contains_counts x (y ∷ ys) h =
      let whole = sum_by-cons (at_item x) y ys in
      elim (contains_cases y x ys h) [
        | inl e ↦ (let one : at_item x y ≡ 1 = ap (λ z. at_item x z) (sym e) ∙ ap (λ b. cond b 1 0) (own x) in omega arith)
        | inr i ↦ (let rest = contains_counts x ys i in omega arith)
      ]

  pub counts_contains : (x : A) (xs : List A) → 1 ≤ sum_by (at_item x) xs → Contains xs x
  counts_contains x [] some = absurd (omega arith)
  counts_contains x (y ∷ ys) some = by_test (is_same x y) refl (counts_contains x ys)
    where
      by_test : (b : Bool) → is_same x y ≡ b → (1 ≤ sum_by (at_item x) ys → Contains ys x) → Contains (y ∷ ys) x
      by_test true is later = subst (λ z. Contains (y ∷ ys) z) (sym (same x y is)) (contains_first y ys)
      by_test false is later =
          let none : at_item x y ≡ 0 = ap (λ b. cond b 1 0) is in
          let whole = sum_by-cons (at_item x) y ys in
          contains_more y x ys (later (omega arith))

  pub same_contained : (xs ys : List A) → SameItems xs ys → (x : A) → Contains ys x ↔ Contains xs x
  same_contained xs ys alike x = (
    λ h. counts_contains x xs (let some = contains_counts x ys h in omega (arith, some, alike (at_item x))),
    λ h. counts_contains x ys (let some = contains_counts x xs h in omega (arith, some, alike (at_item x))),
  )

-- They are as long.
pub as_long : {A : Type 0} (xs ys : List A) → SameItems xs ys → length xs ≡ length ys
as_long xs ys alike = length_sum xs ∙ alike (λ _. 1) ∙ sym (length_sum ys)
