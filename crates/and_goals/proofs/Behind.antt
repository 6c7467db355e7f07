-- A list that is as it was from a place on.
use Rattle.std.proofs.Common.{◌≡◌, ℕ, zero, suc, ◌+◌, ◌<◌, List, [], ◌∷◌, length, drop, set, get_or, ap, subst, arith}

abbrev pub rest_of : {X : Type 0} → List X → List X
rest_of [] = []
rest_of (x ∷ xs) = xs

abbrev first_of : {X : Type 0} → List X → X → X
first_of [] d = d
first_of (x ∷ xs) d = x

pub same_here : {X : Type 0} (xs ys : List X) (i : ℕ) (d : X) → length ys ≡ length xs → drop i ys ≡ drop i xs → i < length xs
    → get_or ys i d ≡ get_or xs i d
same_here [] ys i d len same below = absurd (omega arith)
same_here (x ∷ xs) [] i d len same below = absurd (omega arith)
same_here (x ∷ xs) (y ∷ ys) zero d len same below = ap (λ zs. first_of zs d) same
same_here (x ∷ xs) (y ∷ ys) (suc i) d len same below = same_here xs ys i d (omega arith) same (omega arith)

same_later : {X : Type 0} (xs ys : List X) (i : ℕ) (new : X) → length ys ≡ length xs → drop i ys ≡ drop i xs → i < length xs
    → drop (suc i) (set ys i new) ≡ drop (suc i) xs
same_later [] ys i new len same below = absurd (omega arith)
same_later (x ∷ xs) [] i new len same below = absurd (omega arith)
same_later (x ∷ xs) (y ∷ ys) zero new len same below = ap rest_of same
same_later (x ∷ xs) (y ∷ ys) (suc i) new len same below = same_later xs ys i new (omega arith) same (omega arith)

pub same_next : {X : Type 0} (xs ys : List X) (i : ℕ) (new : X) → length ys ≡ length xs → drop i ys ≡ drop i xs → i < length xs
    → drop (i + 1) (set ys i new) ≡ drop (i + 1) xs
same_next xs ys i new len same below =
    let next : suc i ≡ i + 1 = omega arith in
    subst (λ (n : ℕ). drop n (set ys i new) ≡ drop n xs) next (same_later xs ys i new len same below)
