-- The numbers below a count, each of which stands there once.
use Rattle.std.proofs.Common.{◌≡◌, ℕ, zero, suc, ◌+◌, ◌<◌, ◌≤◌, ⊎_elim, List, [], ◌∷◌, ◌++◌, length, length-append, refl, ap, ◌∙◌, arith}
use Rattle.std.specs.Prelude.{All, Contains}
use Rattle.std.proofs.lemmas.Bool.{cases_lt}
use Rattle.std.proofs.lemmas.List.Elements.{All-cons, Contains-append_right}
use Rattle.and_shares.specs.declared.share.Share.{Share}
use Rattle.and_shares.specs.Balance.{HasLeft}
use Rattle.and_shares.specs.Bags.{weigh}
use Rattle.and_batch.specs.Balance.{below}
use Rattle.and_batch.specs.Dones.{DoneSeen, numbers_of}
use Rattle.and_batch.specs.Working.{IsEachOnce}
use Rattle.and_shares.proofs.Totals.{weigh-append, weigh-one}

pub length-below : (n : ℕ) → length (below n) ≡ n
length-below zero = refl
length-below (suc n) = let r = length-below n in let a = length-append (below n) (n ∷ []) in omega arith

pub below-next : (n : ℕ) → below (n + 1) ≡ below n ++ n ∷ []
below-next n = let e : n + 1 ≡ suc n = omega arith in ap below e

-- where nothing was taken, as many numbers are left as were put
pub as_many : (v : Share ℕ) (numbers : List ℕ) → v.parts ≡ 9 → v.taken ≡ [] → HasLeft 9 v numbers → length v.put ≡ length numbers
as_many v numbers all none left =
    let same = left all (λ n. 1) in
    let a = weigh-one v.put in
    let b = weigh-one numbers in
    let t = ap (weigh (λ n. 1)) none in
    omega arith

-- ---- weights that find a number

-- 1 for the number k
same : ℕ → ℕ → ℕ
same zero zero = 1
same zero (suc n) = 0
same (suc k) zero = 0
same (suc k) (suc n) = same k n

same-refl : (n : ℕ) → same n n ≡ 1
unfolding same
same-refl zero = refl
same-refl (suc n) = same-refl n

same_is : (k n : ℕ) → 0 < same k n → n ≡ k
unfolding same
same_is zero zero some = refl
same_is zero (suc n) some = absurd (omega (arith, some))
same_is (suc k) zero some = absurd (omega (arith, some))
same_is (suc k) (suc n) some = ap suc (same_is k n some)

same_below : (n k : ℕ) → k < n → 0 < weigh (same k) (below n)
same_below zero k less = absurd (omega arith)
same_below (suc n) k less =
    let a = weigh-append (same k) (below n) (n ∷ []) in
    ⊎_elim (λ (here : k < n). let r = same_below n k here in omega arith)
    (λ (past : n ≤ k). let e : k ≡ n = omega arith in let one : same k n ≡ 1 = ap (λ j. same j n) e ∙ same-refl n in omega arith) (cases_lt k n)

contains_of : (k : ℕ) (ns : List ℕ) → 0 < weigh (same k) ns → Contains ns k
contains_of k [] some = absurd (omega (arith, some))
contains_of k (n ∷ ns) some =
    ⊎_elim (λ (here : 0 < same k n). (0, omega arith, same_is k n here))
    (λ (none : same k n ≤ 0). Contains-append_right (n ∷ []) ns k (contains_of k ns (omega arith))) (cases_lt 0 (same k n))

-- 1 for a number that is not below c
past : ℕ → ℕ → ℕ
past zero n = 1
past (suc c) zero = 0
past (suc c) (suc n) = past c n

past_below : (c n : ℕ) → n < c → past c n ≡ 0
unfolding past
past_below zero n less = absurd (omega arith)
past_below (suc c) zero less = refl
past_below (suc c) (suc n) less = past_below c n (omega arith)

past_is : (c n : ℕ) → past c n ≡ 0 → n < c
unfolding past
past_is zero n none = absurd (omega (arith, none))
past_is (suc c) zero none = omega arith
past_is (suc c) (suc n) none = let r = past_is c n none in omega arith

none_past : (c n : ℕ) → n ≤ c → weigh (past c) (below n) ≡ 0
none_past c zero most = refl
none_past c (suc n) most =
    let a = weigh-append (past c) (below n) (n ∷ []) in
    let r = none_past c n (omega arith) in
    let p = past_below c n (omega arith) in
    omega arith

few_of : (c : ℕ) (ds : List DoneSeen) → weigh (past c) (numbers_of ds) ≡ 0 → All (λ (d : DoneSeen). d.number < c) ds
few_of c [] none = λ k d less. absurd (omega arith)
few_of c (d ∷ ds) none =
    All-cons (λ (d : DoneSeen). d.number < c) d ds (past_is c d.number (omega arith)) (few_of c ds (omega arith))

-- ---- jobs that were done once each

pub once_each : (n : ℕ) (ds : List DoneSeen) → IsEachOnce (below n) ds → (k : ℕ) → k < n → Contains (numbers_of ds) k
once_each n ds once k less =
    contains_of k (numbers_of ds) (let s = once (same k) in let b = same_below n k less in omega arith)

pub once_few : (n : ℕ) (ds : List DoneSeen) → IsEachOnce (below n) ds → All (λ (d : DoneSeen). d.number < n) ds
once_few n ds once = few_of n ds (let s = once (past n) in let b = none_past n n (omega arith) in omega arith)
