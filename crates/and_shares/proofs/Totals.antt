-- Weights of lists, and sums over what passes know.
use Rattle.std.proofs.Common.{◌≡◌, ℕ, zero, suc, ◌+◌, ◌≤◌, List, [], ◌∷◌, ◌++◌, length, set, sym, refl, ap, ◌∙◌, arith}
use mathlib.Core.Option.{some, some-injective, some-ne-none}
use lib.ListN.{get_elem?}
use Rattle.and_shares.specs.declared.share.Share.{Share}
use Rattle.and_shares.specs.Bags.{weigh, SameBag}
use Rattle.and_shares.specs.Balance.{total}

pub weigh-append : {T : Type 0} (h : T → ℕ) (xs ys : List T) → weigh h (xs ++ ys) ≡ weigh h xs + weigh h ys
weigh-append h [] ys = omega arith
weigh-append h (x ∷ xs) ys = let r = weigh-append h xs ys in omega arith

-- where each item weighs 1, a list weighs as much as it has items
pub weigh-one : {T : Type 0} (xs : List T) → weigh (λ x. 1) xs ≡ length xs
weigh-one [] = refl
weigh-one (x ∷ xs) = let r = weigh-one xs in omega arith

pub same_length : {T : Type 0} (xs ys : List T) → SameBag xs ys → length xs ≡ length ys
same_length xs ys same = sym (weigh-one xs) ∙ same (λ x. 1) ∙ weigh-one ys

pub total_set : {T : Type 0} (f : Share T → ℕ) (views : List (Share T)) (port : ℕ) (v w : Share T) → get_elem? views port ≡ some v
    → total f (set views port w) + f v ≡ total f views + f w
total_set f [] port v w e = absurd (some-ne-none v (sym e))
total_set f (x ∷ xs) zero v w e = let s = ap f (some-injective x v e) in omega arith
total_set f (x ∷ xs) (suc i) v w e = let r = total_set f xs i v w e in omega arith

pub total-snoc : {T : Type 0} (f : Share T → ℕ) (views : List (Share T)) (w : Share T) → total f (views ++ w ∷ []) ≡ total f views + f w
total-snoc f [] w = omega arith
total-snoc f (x ∷ xs) w = let r = total-snoc f xs w in omega arith

-- where the parts of all are those of one, the others count for nothing
none_else : {T : Type 0} (f : Share T → ℕ) (views : List (Share T))
    → ((port : ℕ) (v : Share T) → get_elem? views port ≡ some v → v.parts ≡ 0 → f v ≡ 0)
    → total (λ v. v.parts) views ≡ 0 → total f views ≡ 0
none_else f [] idle none = refl
none_else f (x ∷ xs) idle none =
    let r = none_else f xs (λ port. idle (suc port)) (omega arith) in
    let here = idle zero x refl (omega arith) in
    omega arith

-- one of them has no more parts than all
most_parts : {T : Type 0} (us : List (Share T)) (j : ℕ) (u : Share T) → get_elem? us j ≡ some u → u.parts ≤ total (λ w. w.parts) us
most_parts [] j u e = absurd (some-ne-none u (sym e))
most_parts {T} (w ∷ ws) zero u e = let s = ap (λ (y : Share T). y.parts) (some-injective w u e) in omega arith
most_parts (w ∷ ws) (suc j) u e = let r = most_parts ws j u e in omega arith

pub only_one : {T : Type 0} (f : Share T → ℕ) (views : List (Share T)) (port : ℕ) (v : Share T) → get_elem? views port ≡ some v
    → ((p : ℕ) (u : Share T) → get_elem? views p ≡ some u → u.parts ≡ 0 → f u ≡ 0)
    → total (λ u. u.parts) views ≡ v.parts → total f views ≡ f v
only_one f [] port v at idle all = absurd (some-ne-none v (sym at))
only_one {T} f (x ∷ xs) zero v at idle all =
    let same = some-injective x v at in
    let parts = ap (λ (u : Share T). u.parts) same in
    let f_same = ap f same in
    let rest = none_else f xs (λ port. idle (suc port)) (omega arith) in
    omega arith
only_one f (x ∷ xs) (suc i) v at idle all =
    let most = most_parts xs i v at in
    let here = idle zero x refl (omega arith) in
    let r = only_one f xs i v at (λ p. idle (suc p)) (omega arith) in
    omega arith
