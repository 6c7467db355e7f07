-- Facts of lists: what is in them, and what a test finds.
use Rattle.std.proofs.Common.{ℕ, suc, ◌≡◌, ◌≢◌, Bool, true, false, not, ◌&&◌, List, [], ◌∷◌, ◌++◌, refl, sym, ap, ◌∙◌, true≢false, arith}
use Rattle.std.specs.Prelude.{nat_eq, All, Contains}
use Rattle.std.specs.List.{list_all}
use Rattle.std.proofs.lemmas.Bool.Decides.{Decides-eqb}
use Rattle.std.proofs.lemmas.List.Elements.{All-nil, All-cons, All-contains}
use Rattle.std.proofs.lemmas.List.Kept.{AllPairs-cons}
use Rattle.and_model.specs.Store.{AreDistinct}

pub first_true : (a b : Bool) → (a && b) ≡ true → a ≡ true
first_true true b is = refl
first_true false b is = is

pub second_true : (a b : Bool) → (a && b) ≡ true → b ≡ true
second_true true b is = is
second_true false b is = absurd (true≢false (sym is))

-- what holds where the test passes holds of each, where it passes at each
pub tested : {X : Type 0} (P : X → Type 0) (test : X → Bool) → ((x : X) → test x ≡ true → P x) → (xs : List X) → list_all test xs ≡ true → All P xs
tested P test sound [] is = All-nil P
tested P test sound (x ∷ xs) is =
    All-cons P x xs (sound x (first_true (test x) (list_all test xs) is)) (tested P test sound xs (second_true (test x) (list_all test xs) is))

-- a fact of each of one, two and four
pub of_one : {X : Type 0} (P : X → Type 0) (x : X) → P x → All P (x ∷ [])
of_one P x p = All-cons P x [] p (All-nil P)

pub of_two : {X : Type 0} (P : X → Type 0) (x y : X) → P x → P y → All P (x ∷ y ∷ [])
of_two P x y p q = All-cons P x (y ∷ []) p (All-cons P y [] q (All-nil P))

pub of_four : {X : Type 0} (P : X → Type 0) (x y z u : X) → P x → P y → P z → P u → All P (x ∷ y ∷ z ∷ u ∷ [])
of_four P x y z u p q r s = All-cons P x (y ∷ z ∷ u ∷ []) p (All-cons P y (z ∷ u ∷ []) q (of_two P z u r s))

pub none_in : {X : Type 0} (x : X) → Contains [] x → ⊥
none_in x c = let below = c.1 in omega arith

pub in_middle : {X : Type 0} (before after : List X) (x : X) → Contains (before ++ x ∷ after) x
in_middle [] after x = (0, omega arith, refl)
in_middle (b ∷ before) after x = let c = in_middle before after x in (suc c.0, (let below = c.1 in omega arith), c.2)

-- what one list has, another has too
pub within : {X : Type 0} (xs ys : List X) → All (Contains ys) xs → (x : X) → Contains xs x → Contains ys x
within xs ys all x c = All-contains (Contains ys) xs x all c

abbrev pub are_apart : List ℕ → Bool
are_apart [] = true
are_apart (n ∷ ns) = list_all (λ m. not (nat_eq n m)) ns && are_apart ns

apart : (n m : ℕ) → not (nat_eq n m) ≡ true → n ≢ m
apart n m is same = true≢false (sym is ∙ ap not ((Decides-eqb n m).1 same))

pub distinct : (ns : List ℕ) → are_apart ns ≡ true → AreDistinct ns
distinct [] is = λ i j d before below. absurd (omega arith)
distinct (n ∷ ns) is =
    AllPairs-cons (λ n m. n ≢ m) n ns
    (tested (λ m. n ≢ m) (λ m. not (nat_eq n m)) (apart n) ns (first_true (list_all (λ m. not (nat_eq n m)) ns) (are_apart ns) is))
    (distinct ns (second_true (list_all (λ m. not (nat_eq n m)) ns) (are_apart ns) is))
