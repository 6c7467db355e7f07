-- Forks with different keys can be put in the order of their keys.
use Rattle.std.proofs.Common.{ℕ, ◌+◌, ◌≡◌, ◌≢◌, List, [], ◌∷◌, get_or, refl, sym, subst, arith, All, AllPairs, Contains, inl, inr, ◌⊎◌}
use Rattle.std.specs.Prelude.{sum_by}
use Rattle.std.proofs.lemmas.List.Sums.{sum_by-cons}
use Rattle.std.proofs.lemmas.List.Elements.{All-contains, Contains-get_or}
use Rattle.std.proofs.lemmas.List.Kept.{AllPairs-cons}
use Rattle.and_model.specs.Reached.{Fork}
use Rattle.and_model.proofs.CodeOrder.{precedes_total, precedes_transitive}
use Rattle.and_laws.specs.CodeOrder.{Rises}
use Rattle.and_laws.proofs.Ordered.{contains_first, contains_more, contains_none, contains_cases}
use Rattle.and_laws.proofs.Pairwise.{all_pairs_none, all_pairs_first, all_pairs_rest}
use Rattle.and_team_laws.specs.Owed.{SameItems}

abbrev Apart : Fork → Fork → Type 0
Apart x y = x.key ≢ y.key

-- what holds of each item that a list contains
of_each : {X : Type 0} (Q : X → Type 0) (xs : List X) → ((x : X) → Contains xs x → Q x) → All Q xs
of_each Q xs each k d below = each (get_or xs k d) (Contains-get_or xs k d below)

-- one fork more among others that are in order
record Put (x : Fork) (ys : List Fork) : Type 0 where
  pub all : List Fork
  pub same : (f : Fork → ℕ) → sum_by f all ≡ f x + sum_by f ys
  pub rising : AllPairs Rises all
  pub only : (z : Fork) → Contains all z → (z ≡ x) ⊎ Contains ys z

put : (x : Fork) (ys : List Fork) → AllPairs Rises ys → ((z : Fork) → Contains ys z → Apart x z) → Put x ys
put x [] rising apart = record {
  all = x ∷ [];
  same = λ f. sum_by-cons f x [];
  rising = AllPairs-cons Rises x [] (of_each (Rises x) [] (λ z h. absurd (contains_none z h))) (all_pairs_none Rises);
  only = λ z h. contains_cases x z [] h;
}
put x (y ∷ ys) rising apart = by_order (precedes_total x.key y.key)
    (put x ys (all_pairs_rest Rises y ys rising) (λ z h. apart z (contains_more y z ys h)))
  where
    behind : (z : Fork) → Contains ys z → Rises y z
    behind z h = All-contains (Rises y) ys z (all_pairs_first Rises y ys rising) h

    by_order : Rises x y ⊎ (x.key ≡ y.key) ⊎ Rises y x → Put x ys → Put x (y ∷ ys)
    by_order (inl before) r = record {
      all = x ∷ y ∷ ys;
      same = λ f. sum_by-cons f x (y ∷ ys);
      rising = AllPairs-cons Rises x (y ∷ ys)
          (of_each (Rises x) (y ∷ ys)
          (λ z h. elim (contains_cases y z ys h) [
            | inl e ↦ subst (λ (w : Fork). Rises x w) (sym e) before
            | inr i ↦ precedes_transitive x.key y.key z.key before (behind z i)
          ])) rising;
      only = λ z h. contains_cases x z (y ∷ ys) h;
    }
    by_order (inr (inl same)) r = absurd (apart y (contains_first y ys) same)
    by_order (inr (inr after)) r = record {
      all = y ∷ r.all;
      same = λ f.
          let one = sum_by-cons f y r.all in
          let two = sum_by-cons f y ys in
          let three = r.same f in
          omega arith;
      rising = AllPairs-cons Rises y r.all
          (of_each (Rises y) r.all
          (λ z h. elim (r.only z h) [ inl e ↦ subst (λ (w : Fork). Rises y w) (sym e) after | inr i ↦ behind z i ]))
          r.rising;
      only = λ z h. elim (contains_cases y z r.all h) [
        | inl e ↦ inr (subst (λ (w : Fork). Contains (y ∷ ys) w) (sym e) (contains_first y ys))
        | inr i ↦ elim (r.only z i) [ inl e ↦ inl e | inr j ↦ inr (contains_more y z ys j) ]
      ];
    }

pub record Sorted (xs : List Fork) : Type 0 where
  pub ordered : List Fork
  pub same : SameItems xs ordered
  pub rising : AllPairs Rises ordered
  pub only : (z : Fork) → Contains ordered z → Contains xs z

pub sorted : (xs : List Fork) → AllPairs Apart xs → Sorted xs
sorted [] apart = record { ordered = []; same = λ f. refl; rising = all_pairs_none Rises; only = λ z h. h }
sorted (x ∷ xs) apart =
    let s : Sorted xs = sorted xs (all_pairs_rest Apart x xs apart) in
    let r : Put x s.ordered = put x s.ordered s.rising (λ z h. All-contains (Apart x) xs z (all_pairs_first Apart x xs apart) (s.only z h)) in
    record {
      ordered = r.all;
      same = λ f.
          let one = sum_by-cons f x xs in
          let two = s.same f in
          let three = r.same f in
          omega arith;
      rising = r.rising;
      only = λ z h. elim (r.only z h) [
        | inl e ↦ subst (λ (w : Fork). Contains (x ∷ xs) w) (sym e) (contains_first x xs)
        | inr i ↦ contains_more x z xs (s.only z i)
      ];
    }
