-- Lists of numbers of which no two are the same.
use Rattle.std.proofs.Common.{ℕ, zero, suc, ◌≡◌, ◌≢◌, ◌+◌, ◌-◌, ◌<◌, ◌≤◌, List, [], ◌∷◌, ◌++◌, length, get_or, refl, sym, ap, ◌∙◌, ◌⊎◌, inl, inr, arith}
use Rattle.std.proofs.Common.{subst, eqb, eqb-true, ne_eqb}
use Rattle.std.specs.Prelude.{All}
use Rattle.std.proofs.lemmas.Bool.{cases_eq}
use Rattle.std.proofs.lemmas.List.{get_or_append_left, get_or-append_right, length-append}
use Rattle.std.proofs.lemmas.List.Folds.{Any-from_list_any}
use Rattle.std.proofs.lemmas.Map.Keys.{IsDistinct-from_apart}
use Rattle.std.proofs.lemmas.Map.Steps.{length-le_from_distinct_below}
use Rattle.and_model.specs.Store.{AreDistinct}

-- a number that is none of a list's may be put at its end
pub distinct_push : (ns : List ℕ) (n : ℕ) → AreDistinct ns → ((i : ℕ) → i < length ns → get_or ns i 0 ≢ n) → AreDistinct (ns ++ n ∷ [])
distinct_push ns n all new i j d before below e = by_end (cases_eq j (length ns))
  where
    default : (xs : List ℕ) (k : ℕ) → k < length xs → get_or xs k d ≡ get_or xs k 0
    default [] k low = absurd (omega arith)
    default (x ∷ xs) zero low = refl
    default (x ∷ xs) (suc k) low = default xs k (omega arith)

    long : length (ns ++ n ∷ []) ≡ length ns + 1
    long = length-append ns (n ∷ [])

    left : (k : ℕ) → k < length ns → get_or (ns ++ n ∷ []) k d ≡ get_or ns k d
    left k low = get_or_append_left ns (n ∷ []) d k low

    by_end : (j ≡ length ns) ⊎ (j ≢ length ns) → ⊥
    by_end (inl last) =
        let low : i < length ns = omega arith in
        let gap : length ns - length ns ≡ 0 = omega arith in
        let at : get_or (ns ++ n ∷ []) j d ≡ n =
        ap (λ k. get_or (ns ++ n ∷ []) k d) last ∙ get_or-append_right ns (n ∷ []) (length ns) (length ns) d refl (omega arith)
        ∙ ap (λ k. get_or (n ∷ []) k d) gap in
        new i low (sym (default ns i low) ∙ sym (left i low) ∙ e ∙ at)
    by_end (inr inner) =
        let low : j < length ns = omega (arith, long) in
        all i j d before low (sym (left i (omega arith)) ∙ e ∙ left j low)

-- such numbers below n are at most n
pub few_distinct : (ns : List ℕ) (n : ℕ) → AreDistinct ns → All (λ (k : ℕ). k < n) ns → length ns ≤ n
few_distinct ns n apart below =
    length-le_from_distinct_below ns n (IsDistinct-from_apart eqb ns (λ i j d lt within. ne_eqb _ _ (apart i j d lt within)))
    (λ q among. let (k, x, low, at, same) = Any-from_list_any (eqb q) ns among in
    subst (λ m. m < n) (sym (eqb-true q x same)) (subst (λ m. m < n) at (below k x low)))
