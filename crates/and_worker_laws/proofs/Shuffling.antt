-- Lists in another order, and goals of arithmetic that are taken out of others.
use Rattle.std.proofs.Common.{ℕ, zero, suc, ◌≡◌, ◌<◌, List, [], ◌∷◌, length, refl, ap, ◌∙◌, arith, get_or, set, swap, IsPermutation}
use Rattle.std.proofs.lemmas.List.Sorted.{IsPermutation-keeps}
use Rattle.and_model.specs.Programs.{Arithmetic}
use Rattle.and_model.specs.Closure.{Without}
use Rattle.and_phase_laws.specs.Journals.{TakenOut}

-- Shuffled xs ys: ys has the elements of xs, in an order that exchanges of neighbours reach.
pub data Shuffled {X : Type 0} : List X → List X → Type 0 where
  same : (xs : List X) → Shuffled xs xs
  first : (x : X) (xs ys : List X) → Shuffled xs ys → Shuffled (x ∷ xs) (x ∷ ys)
  flip : (x y : X) (xs : List X) → Shuffled (x ∷ y ∷ xs) (y ∷ x ∷ xs)
  chain : (xs ys zs : List X) → Shuffled xs ys → Shuffled ys zs → Shuffled xs zs

-- ---- Permutations are shuffles.

module _ {X : Type 0} where
  -- the first element and a later one in each other's place
  first_swapped : (x : X) (xs : List X) (j : ℕ) (d : X) → j < length xs → Shuffled (x ∷ xs) (get_or xs j d ∷ set xs j x)
  first_swapped x [] j d l = absurd (omega arith)
  first_swapped x (y ∷ xs) zero d l = Shuffled.flip x y xs
  first_swapped x (y ∷ xs) (suc j) d l =
      let z : X = get_or xs j d in
      let rest : List X = set xs j x in
      let inner : Shuffled (x ∷ xs) (z ∷ rest) = first_swapped x xs j d (omega arith) in
      Shuffled.chain (x ∷ y ∷ xs) (y ∷ x ∷ xs) (z ∷ y ∷ rest) (Shuffled.flip x y xs)
      (Shuffled.chain (y ∷ x ∷ xs) (y ∷ z ∷ rest) (z ∷ y ∷ rest) (Shuffled.first y (x ∷ xs) (z ∷ rest) inner) (Shuffled.flip y z rest))

  two_swapped : (xs : List X) (i j : ℕ) (d : X) → i < length xs → j < length xs → Shuffled xs (set (set xs i (get_or xs j d)) j (get_or xs i d))
  two_swapped [] i j d p q = absurd (omega arith)
  two_swapped (x ∷ xs) zero zero d p q = Shuffled.same (x ∷ xs)
  two_swapped (x ∷ xs) zero (suc j) d p q = first_swapped x xs j d (omega arith)
  two_swapped (x ∷ xs) (suc i) zero d p q = first_swapped x xs i d (omega arith)
  two_swapped (x ∷ xs) (suc i) (suc j) d p q =
      Shuffled.first x xs (set (set xs i (get_or xs j d)) j (get_or xs i d)) (two_swapped xs i j d (omega arith) (omega arith))

  swapped : (xs : List X) (i j : ℕ) → i < length xs → j < length xs → Shuffled xs (swap xs i j)
  swapped [] i j p q = absurd (omega arith)
  swapped (x ∷ xs) i j p q = two_swapped (x ∷ xs) i j x p q

  pub permutation_shuffled : (xs ys : List X) → IsPermutation xs ys → Shuffled xs ys
  permutation_shuffled xs ys p =
      IsPermutation-keeps xs (λ l. Shuffled xs l) (Shuffled.same xs)
      (λ l i j a b s. Shuffled.chain xs l (swap l i j) s (swapped l i j a b)) ys p

-- ---- Lists side by side

-- one by one
abbrev pub Pairwise : {X Y : Type 0} → (X → Y → Type 0) → List X → List Y → Type 0
Pairwise R [] [] = Unit {0}
Pairwise R [] (y ∷ ys) = ⊥
Pairwise R (x ∷ xs) [] = ⊥
Pairwise R (x ∷ xs) (y ∷ ys) = R x y × Pairwise R xs ys

module _ {X Y : Type 0} (R : X → Y → Type 0) where
  -- What stands beside a list goes with it into another order.
  pub shuffled_beside : (xs ys : List X) → Shuffled xs ys → (us : List Y) → Pairwise R xs us → (vs : List Y) × Pairwise R ys vs × Shuffled us vs
  shuffled_beside xs ys (Shuffled.same zs) us p = (us, p, Shuffled.same us)
  shuffled_beside xs ys (Shuffled.first x ps bs s) [] p = absurd p
  shuffled_beside xs ys (Shuffled.first x ps bs s) (u ∷ us) p =
      let (vs, q, t) = shuffled_beside ps bs s us p.1 in
      (u ∷ vs, (p.0, q), Shuffled.first u us vs t)
  shuffled_beside xs ys (Shuffled.flip x y zs) [] p = absurd p
  shuffled_beside xs ys (Shuffled.flip x y zs) (u ∷ []) p = absurd p.1
  shuffled_beside xs ys (Shuffled.flip x y zs) (u ∷ v ∷ us) p = (v ∷ u ∷ us, (p.1.0, (p.0, p.1.1)), Shuffled.flip u v us)
  shuffled_beside xs ys (Shuffled.chain ps bs cs s r) us p =
      let (vs, q, t) = shuffled_beside ps bs s us p in
      let (ws, k, m) = shuffled_beside bs cs r vs q in
      (ws, k, Shuffled.chain us vs ws t m)

  -- Where one thing at most stands beside each, there is one such list.
  pub one_beside : ((x : X) (u v : Y) → R x u → R x v → u ≡ v) → (xs : List X) (us vs : List Y) → Pairwise R xs us → Pairwise R xs vs → us ≡ vs
  one_beside one [] [] [] p q = refl
  one_beside one [] [] (v ∷ vs) p q = absurd q
  one_beside one [] (u ∷ us) vs p q = absurd p
  one_beside one (x ∷ xs) [] vs p q = absurd p
  one_beside one (x ∷ xs) (u ∷ us) [] p q = absurd q
  one_beside one (x ∷ xs) (u ∷ us) (v ∷ vs) p q =
      ap (λ (z : Y). z ∷ us) (one x u v p.0 q.0) ∙ ap (λ (l : List Y). v ∷ l) (one_beside one xs us vs p.1 q.1)

-- ---- Goals that are taken out

-- Two goals are taken out in either order,
without_flipped : (xs : List Arithmetic) (a : Arithmetic) (ys : List Arithmetic) (b : Arithmetic) (zs : List Arithmetic) → Without xs a ys → Without ys b zs
    → (ws : List Arithmetic) × Without xs b ws × Without ws a zs
without_flipped xs a ys b zs (Without.here c cs) w = (c ∷ zs, Without.there c cs b zs w, Without.here c zs)
without_flipped xs a ys b zs (Without.there c cs d ds v) (Without.here e es) = (cs, Without.here c cs, v)
without_flipped xs a ys b zs (Without.there c cs d ds v) (Without.there e es f fs w) =
    let (ws, k, m) = without_flipped cs a ds b fs v w in
    (c ∷ ws, Without.there c cs b ws k, Without.there c ws a fs m)

-- and so are more.
pub shuffled_out : (xs ps bs ws : List Arithmetic) → Shuffled ps bs → TakenOut xs ps ws → TakenOut xs bs ws
shuffled_out xs ps bs ws (Shuffled.same cs) o = o
shuffled_out xs ps bs ws (Shuffled.first c cs ds s) o = let (hs, w, r) = o in (hs, w, shuffled_out hs cs ds ws s r)
shuffled_out xs ps bs ws (Shuffled.flip a b cs) o =
    let (hs, w, r) = o in
    let (ks, v, m) = r in
    let (gs, k, n) = without_flipped xs a hs b ks w v in
    (gs, k, (ks, n, m))
shuffled_out xs ps bs ws (Shuffled.chain cs ds es s r) o = shuffled_out xs ds es ws r (shuffled_out xs cs ds ws s o)

all_out : (xs : List Arithmetic) → TakenOut xs xs []
all_out [] = refl
all_out (x ∷ xs) = (xs, Without.here x xs, all_out xs)

pub shuffled_all_out : (xs ys : List Arithmetic) → Shuffled xs ys → TakenOut xs ys []
shuffled_all_out xs ys s = shuffled_out xs xs ys [] s (all_out xs)
