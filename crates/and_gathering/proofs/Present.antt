-- What a list of places still has.
use Rattle.std.proofs.Common.{ℕ, suc, zero, ◌≡◌, ◌≤◌, List, [], ◌∷◌, ◌++◌, length, get_or, set, Option, Some, None}
use Rattle.std.proofs.Common.{refl, ap, sym, subst, ◌∙◌, arith}
use Rattle.std.proofs.lemmas.Option.{get_or_from_slice_get}
use Rattle.std.specs.Prelude.{slice_get, IsPermutation}
use Rattle.std.proofs.lemmas.List.Sorted.{IsPermutation-refl, IsPermutation-trans, IsPermutation-cons, IsPermutation-middle}
use Rattle.and_gathering.specs.Gathering.{present}
use Rattle.and_gathering.specs.declared.links.Taken.{Taken}

pub present_more : (xs : List (Option Taken)) (t : Taken) → present (xs ++ Some t ∷ []) ≡ present xs ++ t ∷ []
present_more [] t = refl
present_more (None ∷ xs) t = present_more xs t
present_more (Some u ∷ xs) t = ap (λ (l : List Taken). u ∷ l) (present_more xs t)

pub present_short : (xs : List (Option Taken)) → length (present xs) ≤ length xs
present_short [] = omega arith
present_short (None ∷ xs) = let h = present_short xs in omega (arith, h)
present_short (Some u ∷ xs) = let h = present_short xs in omega (arith, h)

-- Two in front may be exchanged.
pub swapped : {A : Type 0} → (x y : A) (xs ys : List A) → IsPermutation xs (y ∷ ys) → IsPermutation (x ∷ xs) (y ∷ x ∷ ys)
swapped x y xs ys h =
    IsPermutation-trans (x ∷ xs) (x ∷ y ∷ ys) (y ∷ x ∷ ys) (IsPermutation-cons x xs (y ∷ ys) h) (IsPermutation-middle (x ∷ []) y ys)

-- What is taken out of its place was there.
pub present_out : (xs : List (Option Taken)) (place : ℕ) (t : Taken) → slice_get xs place ≡ Some (Some t)
    → IsPermutation (present xs) (t ∷ present (set xs place None))
present_out [] place t is = absurd (let none : None ≡ Some (Some t) = is in cc)
present_out (x ∷ xs) zero t is =
    let here : x ≡ Some t = cc in
    subst (λ (y : Option Taken). IsPermutation (present (y ∷ xs)) (t ∷ present xs)) (sym here) (IsPermutation-refl (t ∷ present xs))
present_out (None ∷ xs) (suc place) t is = present_out xs place t is
present_out (Some u ∷ xs) (suc place) t is = swapped u t (present xs) (present (set xs place None)) (present_out xs place t is)

-- What is read at a place is what stands there.
pub read_so : (xs : List (Option Taken)) (place : ℕ) (v : Option Taken) (t u : Taken) → slice_get xs place ≡ Some (Some t)
    → v ≡ get_or xs place v → v ≡ Some u → t ≡ u
read_so xs place v t u is read so = let there = get_or_from_slice_get xs place (Some t) v is in
    let same : Some t ≡ Some u = sym there ∙ sym read ∙ so in cc
