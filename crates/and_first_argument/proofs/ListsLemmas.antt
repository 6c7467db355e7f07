-- Lists of lists: one more at the end of each, and one less.
use Rattle.std.proofs.Common.{◌≡◌, ◌<◌, ◌-◌, ℕ, List, [], ◌∷◌, ◌++◌, map, take, drop, set, get_or, length, refl, ap, ◌∙◌, arith}
use Rattle.std.proofs.lemmas.List.{take_at, drop_at, length_push, length-map, length-take-le, set-get_or, take-append-drop}
use Rattle.and_first_argument.specs.Lists.{without_last}

pub without_last-push : {A : Type 0} (xs : List A) (x : A) → without_last (xs ++ x ∷ []) ≡ xs
without_last-push xs x = take_at xs (x ∷ []) (length (xs ++ x ∷ []) - 1) (omega (arith, length_push xs x))

-- what was put at the end of each is taken out again
pub without_each-push : {A : Type 0} (x : A) (xss : List (List A)) → map without_last (map (λ xs. xs ++ x ∷ []) xss) ≡ xss
without_each-push x [] = refl
without_each-push x (xs ∷ xss) = λ i. without_last-push xs x i ∷ without_each-push x xss i

-- a loop that put one more at the end of each, and at place i could not, goes back
pub pushes_undone : {A : Type 0} (x : A) (xss yss zss : List (List A)) (i : ℕ) (at now : List A) → i < length xss
    → yss ≡ map (λ xs. xs ++ x ∷ []) (take i xss) ++ drop i xss → at ≡ get_or yss i at → now ≡ at
    → zss ≡ map without_last (take i (set yss i now)) → zss ++ drop i (set yss i now) ≡ xss
pushes_undone {A = A} x xss yss zss i at now below is read same popped =
    let front : List (List A) = map (λ xs. xs ++ x ∷ []) (take i xss) in
    let long : length front ≡ i = length-map (take i xss) (λ xs. xs ++ x ∷ []) ∙ length-take-le i xss (omega arith) in
    let kept : set yss i now ≡ front ++ drop i xss = ap (set yss i) (same ∙ read) ∙ set-get_or yss i at ∙ is in
    let left = ap (map without_last) (take_at front (drop i xss) i long) ∙ without_each-push x (take i xss) in
    let first : zss ≡ take i xss = popped ∙ ap (λ yss. map without_last (take i yss)) kept ∙ left in
    let rest : drop i (set yss i now) ≡ drop i xss = ap (drop i) kept ∙ drop_at front (drop i xss) i long in
    rw (first, rest) (take-append-drop i xss)
