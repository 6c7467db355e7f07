-- The numbers below n of which something holds that is decided, in order.
use Rattle.std.proofs.Common.{ℕ, ◌<◌, List, [], ◌∷◌, ◌++◌, zero, suc, sym, subst, inl, inr, ◌⊎◌, arith, AllPairs, Contains, get_or}
use Rattle.std.proofs.lemmas.List.Elements.{All-nil, All-cons, All-contains_itself, Contains-append_left, Contains-append_right, Contains-append_cases}
use Rattle.std.proofs.lemmas.List.Kept.{AllPairs-cons}
use Rattle.and_laws.proofs.Equality.{number_or}
use Rattle.and_laws.proofs.Ordered.{contains_first, contains_none, contains_cases}
use Rattle.and_laws.proofs.Pairwise.{all_pairs_none, all_pairs_join}

pub record Listed (A : ℕ → Type 0) (n : ℕ) : Type 0 where
  pub numbers : List ℕ
  pub rising : AllPairs (λ (c d : ℕ). c < d) numbers
  pub has : (c : ℕ) → Contains numbers c → A c × (c < n)
  pub all : (c : ℕ) → A c → c < n → Contains numbers c

pub listed : (A : ℕ → Type 0) → ((c : ℕ) → A c ⊎ (A c → ⊥)) → (n : ℕ) → Listed A n
listed A f zero = record {
  numbers = [];
  rising = all_pairs_none (λ (c d : ℕ). c < d);
  has = λ c h. absurd (contains_none c h);
  all = λ c a l. absurd (omega arith);
}
listed A f (suc n) = go (listed A f n) (f n)
  where
    go : Listed A n → A n ⊎ (A n → ⊥) → Listed A (suc n)
    go x (inl a) =
        let R : ℕ → ℕ → Type 0 = λ c d. c < d in record {
          numbers = x.numbers ++ n ∷ [];
          rising = all_pairs_join R x.numbers (n ∷ []) x.rising (AllPairs-cons R n [] (All-nil (R n)) (all_pairs_none R))
              (λ k d h. All-cons (R (get_or x.numbers k d)) n [] (x.has (get_or x.numbers k d) (All-contains_itself x.numbers k d h)).1
              (All-nil (R (get_or x.numbers k d))));
          has = λ c h. elim (Contains-append_cases x.numbers (n ∷ []) c h) [
            | inl i ↦ let k = x.has c i in (k.0, (let l = k.1 in omega arith))
            | inr i ↦ elim (contains_cases n c [] i) [ inl e ↦ (subst A (sym e) a, omega arith) | inr none ↦ absurd (contains_none c none) ]
          ];
          all = λ c b l. elim (number_or c n) [
            | inl e ↦ Contains-append_right x.numbers (n ∷ []) c (subst (λ (y : ℕ). Contains (n ∷ []) y) (sym e) (contains_first n []))
            | inr other ↦ Contains-append_left x.numbers (n ∷ []) c (x.all c b (omega arith))
          ];
        }
    go x (inr na) = record {
      numbers = x.numbers;
      rising = x.rising;
      has = λ c h. let k = x.has c h in (k.0, (let l = k.1 in omega arith));
      all = λ c b l. elim (number_or c n) [ inl e ↦ absurd (na (subst A e b)) | inr other ↦ x.all c b (omega arith) ];
    }
