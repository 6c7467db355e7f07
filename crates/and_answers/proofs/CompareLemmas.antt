-- Where two lists part.
use Rattle.std.proofs.Common.{◌≡◌, ◌≢◌, ◌<◌, ◌+◌, ℕ, List, [], ◌∷◌, ◌++◌, length, take, drop, get_or, sym, ap, ◌∙◌, subst}
use Rattle.std.proofs.Common.{arith, append_assoc}
use Rattle.std.specs.Prelude.{slice_get, Some}
use Rattle.std.proofs.lemmas.Option.{get_or_from_slice_get, slice_get_within}
use Rattle.std.proofs.lemmas.List.{drop_more, take_more_same, get_or-drop, length-drop}
use Rattle.and_answers.specs.Tails.{MayFollow, ArePartedAtOnce}

-- ---- what stands at a place

-- So many behind a place, what is read there comes first.
pub read_first : (xs : List ℕ) (from i a : ℕ) → slice_get xs (from + i) ≡ Some a → drop i (drop from xs) ≡ a ∷ drop (i + 1) (drop from xs)
read_first xs from i a is =
    let within : from + i < length xs = slice_get_within xs (from + i) a is in
    let long = length-drop from xs in
    let here : get_or (drop from xs) i a ≡ a = get_or-drop from xs i a ∙ get_or_from_slice_get xs (from + i) a a is in
    drop_more (drop from xs) i a (omega (arith, long)) ∙ ap (λ b. b ∷ drop (i + 1) (drop from xs)) here

pub read_at : (xs : List ℕ) (i a : ℕ) → slice_get xs i ≡ Some a → drop i xs ≡ a ∷ drop (i + 1) xs
read_at xs i a is =
    drop_more xs i a (slice_get_within xs i a is) ∙ ap (λ b. b ∷ drop (i + 1) xs) (get_or_from_slice_get xs i a a is)

-- ---- endings

parted_none : (xs : List ℕ) → ArePartedAtOnce xs []
parted_none [] = tt
parted_none (x ∷ xs) = tt

pub parted_end : (xs ys : List ℕ) → ys ≡ [] → ArePartedAtOnce xs ys
parted_end xs ys none = subst (λ l. ArePartedAtOnce xs l) (sym none) (parted_none xs)

pub parted_here : (xs ys us vs : List ℕ) (a b : ℕ) → xs ≡ a ∷ us → ys ≡ b ∷ vs → a ≢ b → ArePartedAtOnce xs ys
parted_here xs ys us vs a b one other apart =
    subst (λ l. ArePartedAtOnce l ys) (sym one) (subst (λ l. ArePartedAtOnce (a ∷ us) l) (sym other) apart)

pub follows_end : (xs ys : List ℕ) → xs ≡ [] → MayFollow xs ys
follows_end xs ys none = subst (λ l. MayFollow l ys) (sym none) tt

pub follows_here : (xs ys us vs : List ℕ) (a b : ℕ) → xs ≡ a ∷ us → ys ≡ b ∷ vs → a < b → MayFollow xs ys
follows_here xs ys us vs a b one other below =
    subst (λ l. MayFollow l ys) (sym one) (subst (λ l. MayFollow (a ∷ us) l) (sym other) below)

pub apart_here : (xs ys us vs : List ℕ) (a b : ℕ) → xs ≡ a ∷ us → ys ≡ b ∷ vs → ArePartedAtOnce xs ys → a ≢ b
apart_here xs ys us vs a b one other parted =
    subst (λ l. ArePartedAtOnce (a ∷ us) l) other (subst (λ l. ArePartedAtOnce l ys) one parted)

-- ---- one item more

pub one_more_same : (xs ys us vs : List ℕ) (n a b : ℕ) → drop n xs ≡ a ∷ us → drop n ys ≡ b ∷ vs → a ≡ b → take n xs ≡ take n ys
    → take (n + 1) xs ≡ take (n + 1) ys
one_more_same xs ys us vs n a b one other same so_far =
    let long = ap length one in
    let far = ap length other in
    let whole = length-drop n xs in
    let wide = length-drop n ys in
    let none : n ≡ n + 0 = omega arith in
    let first : get_or xs n a ≡ a = ap (λ k. get_or xs k a) none ∙ sym (get_or-drop n xs 0 a) ∙ ap (λ (l : List ℕ). get_or l 0 a) one in
    let second : get_or ys n a ≡ b = ap (λ k. get_or ys k a) none ∙ sym (get_or-drop n ys 0 a) ∙ ap (λ (l : List ℕ). get_or l 0 a) other in
    take_more_same xs ys n a (omega (arith, long, whole)) (omega (arith, far, wide)) so_far (first ∙ same ∙ sym second)

-- the clauses behind a place, as far as they were copied
pub copied_more : (xs rest new whole : List ℕ) (i a : ℕ) → slice_get xs i ≡ Some a → new ≡ rest ++ a ∷ [] → rest ++ drop i xs ≡ whole
    → new ++ drop (i + 1) xs ≡ whole
copied_more xs rest new whole i a is pushed so_far =
    ap (λ l. l ++ drop (i + 1) xs) pushed ∙ append_assoc rest (a ∷ []) (drop (i + 1) xs)
    ∙ ap (λ l. rest ++ l) (sym (read_at xs i a is)) ∙ so_far
