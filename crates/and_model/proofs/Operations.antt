-- What is no operation has no value.
use Rattle.std.proofs.Common.{ℕ, ℤ, ◌≡◌, ◌&&◌, Bool, false, nat_eq, List, [], ◌∷◌, length, Option, Some, None, refl}
use Rattle.std.specs.List.{AllByRecursion, list_any}
use Rattle.std.proofs.lemmas.Bool.{or_parts}
use Rattle.and_model.specs.Arithmetic.{is_operation, of_one, of_two, operated}
use Rattle.and_model.specs.declared.builtins.TheConstants.{PLUS, MINUS, TIMES, DIVIDE, MODULO, REMAINDER, LEAST, GREATEST, OPERATIONS}

-- a test that none passes fails at each
each_fails : {X : Type 0} (test : X → Bool) (xs : List X) → list_any test xs ≡ false → AllByRecursion (λ x. test x ≡ false) xs
each_fails test [] e = tt
each_fails test (x ∷ xs) e = let parts = or_parts (test x) (list_any test xs) e in (parts.0, each_fails test xs parts.1)

-- the name is none of those of an operation of so many numbers, which `is_operation` tells one by one
abbrev IsNone : ℕ → ℕ → Type 0
IsNone c n = AllByRecursion (λ (o : ℕ × ℕ). (nat_eq n o.1 && nat_eq c o.0) ≡ false) OPERATIONS

is_none : (c n : ℕ) → is_operation c n ≡ false → IsNone c n
is_none c n e = each_fails (λ (o : ℕ × ℕ). nat_eq n o.1 && nat_eq c o.0) OPERATIONS e

none_of_one : (c : ℕ) (a : ℤ) → IsNone c 1 → of_one c a ≡ None
unfolding of_one
none_of_one c a none =
    let minus : nat_eq c MINUS ≡ false = none.1.1.1.1.1.1.1.1.0 in
    rw minus refl

none_of_two : (c : ℕ) (a b : ℤ) → IsNone c 2 → of_two c a b ≡ None
unfolding of_two
none_of_two c a b none =
    let plus : nat_eq c PLUS ≡ false = none.0 in
    let minus : nat_eq c MINUS ≡ false = none.1.0 in
    let times : nat_eq c TIMES ≡ false = none.1.1.0 in
    let divide : nat_eq c DIVIDE ≡ false = none.1.1.1.0 in
    let modulo : nat_eq c MODULO ≡ false = none.1.1.1.1.0 in
    let remainder : nat_eq c REMAINDER ≡ false = none.1.1.1.1.1.0 in
    let least : nat_eq c LEAST ≡ false = none.1.1.1.1.1.1.0 in
    let greatest : nat_eq c GREATEST ≡ false = none.1.1.1.1.1.1.1.0 in
    rw (plus, minus, times, divide, modulo, remainder, least, greatest) refl

pub none_of_values : (c : ℕ) (vs : List (Option ℤ)) → is_operation c (length vs) ≡ false → operated c vs ≡ None
none_of_values c [] e = refl
none_of_values c (None ∷ []) e = refl
none_of_values c (Some a ∷ []) e = none_of_one c a (is_none c 1 e)
none_of_values c (None ∷ None ∷ []) e = refl
none_of_values c (None ∷ Some b ∷ []) e = refl
none_of_values c (Some a ∷ None ∷ []) e = refl
none_of_values c (Some a ∷ Some b ∷ []) e = none_of_two c a b (is_none c 2 e)
none_of_values c (None ∷ v ∷ w ∷ vs) e = refl
none_of_values c (Some a ∷ None ∷ w ∷ vs) e = refl
none_of_values c (Some a ∷ Some b ∷ w ∷ vs) e = refl
