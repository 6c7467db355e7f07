-- Codes that part where their tails begin.
use Rattle.std.proofs.Common.{◌≡◌, ◌<◌, ◌≤◌, ◌+◌, ◌⊎◌, inl, inr, ℕ, zero, suc, List, [], ◌∷◌, ◌++◌, length, take, drop, refl, sym, ap, ◌∙◌, subst}
use Rattle.std.proofs.Common.{arith, length-append, append_assoc, append-nil}
use Rattle.std.proofs.lemmas.List.{length-take, take-append-drop, take-append-le}
use lib.Seq.{take-append-add, drop-append-add}
use Rattle.and_model.specs.Codes.{Precedes}
use Rattle.and_answers.specs.Tails.{MayFollow}

-- Behind one beginning, what may follow an ending comes no sooner.
pub parted_follows : (front one other : List ℕ) → MayFollow one other → Precedes (front ++ one) (front ++ other) ⊎ (front ++ one ≡ front ++ other)
parted_follows front [] [] h = inr refl
parted_follows front [] (d ∷ rest) h = inl (inl (d, rest, ap (λ l. l ++ d ∷ rest) (sym (append-nil front))))
parted_follows front (c ∷ others) [] h = absurd h
parted_follows front (c ∷ others) (d ∷ rest) h = inl (inr (front, c, d, others, rest, h, refl, refl))

-- So it is with what begins as a code does, and may follow there.
pub tail_follows : (last rest : List ℕ) (common : ℕ) → MayFollow (drop common last) rest
    → Precedes last (take common last ++ rest) ⊎ (last ≡ take common last ++ rest)
tail_follows last rest common h =
    let whole : take common last ++ drop common last ≡ last = take-append-drop common last in
    subst (λ l. Precedes l (take common last ++ rest) ⊎ (l ≡ take common last ++ rest)) whole
    (parted_follows (take common last) (drop common last) rest h)

pub long_take : (n : ℕ) (xs : List ℕ) → n ≤ length xs → length (take n xs) ≡ n
long_take n xs within = omega (arith, length-take n xs)

-- ---- one that has more in common with the code before comes first

more_follows : (last : List ℕ) (more less : ℕ) (own rest : List ℕ) → less < more → more ≤ length last → MayFollow (drop less last) rest
    → MayFollow (drop less (take more last ++ own)) rest
more_follows [] more less own rest below within h = absurd (omega arith)
more_follows (c ∷ last) zero less own rest below within h = absurd (omega arith)
more_follows (c ∷ last) (suc more) zero own [] below within h = absurd h
more_follows (c ∷ last) (suc more) zero own (d ∷ rest) below within h = h
more_follows (c ∷ last) (suc more) (suc less) own rest below within h = more_follows last more less own rest (omega arith) (omega arith) h

-- Where the code of one comes behind this code, the other stands behind that as it stood.
pub record StandsOn (last code rest : List ℕ) (old new : ℕ) (tail : List ℕ) : Type 0 where
  pub within : new ≤ length code
  pub follows : MayFollow (drop new code) tail
  pub same : take new code ++ tail ≡ take old last ++ rest

pub more_first : (last own rest : List ℕ) (more less : ℕ) → less < more → more ≤ length last → MayFollow (drop less last) rest
    → StandsOn last (take more last ++ own) rest less less rest
more_first last own rest more less below within h =
    let long : length (take more last) ≡ more = long_take more last within in
    let whole = length-append (take more last) own in
    record {
      within = omega (arith, long, whole);
      follows = more_follows last more less own rest below within h;
      same = ap (λ l. l ++ rest) (take-append-le less (take more last) own (omega (arith, long)) ∙ taken_less last more less below);
    }
  where
    taken_less : (xs : List ℕ) (n k : ℕ) → k < n → take k (take n xs) ≡ take k xs
    taken_less xs n zero less = refl
    taken_less [] zero (suc k) less = absurd (omega arith)
    taken_less [] (suc n) (suc k) less = refl
    taken_less (x ∷ xs) zero (suc k) less = absurd (omega arith)
    taken_less (x ∷ xs) (suc n) (suc k) less = ap (λ l. x ∷ l) (taken_less xs n k (omega arith))

-- ---- where both have as much in common with it, they are compared from there on

pub same_first : (last own rest : List ℕ) (common count : ℕ) → common ≤ length last → count ≤ length own → take count own ≡ take count rest
    → MayFollow (drop count own) (drop count rest) → StandsOn last (take common last ++ own) rest common (common + count) (drop count rest)
same_first last own rest common count within inside same h =
    let front : List ℕ = take common last in
    let long : length front ≡ common = long_take common last within in
    let whole = length-append front own in
    let dropped : drop (common + count) (front ++ own) ≡ drop count own =
    ap (λ n. drop (n + count) (front ++ own)) (sym long) ∙ drop-append-add front own count in
    let taken : take (common + count) (front ++ own) ≡ front ++ take count own =
    ap (λ n. take (n + count) (front ++ own)) (sym long) ∙ take-append-add front own count in
    record {
      within = omega (arith, long, whole);
      follows = subst (λ l. MayFollow l (drop count rest)) (sym dropped) h;
      same = ap (λ l. l ++ drop count rest) (taken ∙ ap (λ l. front ++ l) same) ∙ append_assoc front (take count rest) (drop count rest)
          ∙ ap (λ l. front ++ l) (take-append-drop count rest);
    }
