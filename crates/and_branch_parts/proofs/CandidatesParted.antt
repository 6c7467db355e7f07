-- Candidates that are parted by their weight.
use Rattle.std.proofs.Common.{ℕ, ◌+◌, ◌≡◌, ◌<◌, ◌≤◌, Bool, true, false, cond, List, [], ◌∷◌, ◌++◌, refl, ap, sym, ◌∙◌, subst, inl, inr}
use Rattle.std.proofs.Common.{arith}
use Rattle.std.proofs.Common.{Contains, Some, None, Option, ◌⊎◌, length, get_or, take}
use Rattle.std.specs.Prelude.{All, AllPairs, filter, slice_get, ◌↔◌}
use Rattle.std.specs.Option.{option_map}
use Rattle.std.proofs.lemmas.Bool.{true≢false, le-leb, leb-true}
use Rattle.std.proofs.lemmas.List.{length-map, get_or-map, take_more}
use Rattle.std.proofs.lemmas.List.Elements.{filter-append}
use Rattle.std.proofs.lemmas.Option.{get_or_from_slice_get, slice_get_within}
use Rattle.std.proofs.lemmas.List.Kept.{AllPairs-filter}
use Rattle.and_model.specs.declared.numbers.ClauseNo.{ClauseNo}
use Rattle.and_model.specs.declared.reference.Ref.{Ref}
use Rattle.and_laws.proofs.Ordered.{contains_first, contains_more, contains_cases, contains_none}
use Rattle.and_laws.proofs.Pairwise.{all_pairs_first, all_pairs_rest, all_first, all_rest}
use Rattle.and_cells.specs.Ranges.{NamedProgram}
use Rattle.and_branch_laws.specs.Judging.{FitsBehind}
use Rattle.and_branch_laws.specs.States.{IsFirst}
use Rattle.and_branch_parts.specs.Forking.{fits_in, first_other, with_other}
use Rattle.and_branch_parts.specs.Forking.{numbers}

-- what the test says
pub fits_behind : (P : NamedProgram) (limit : ℕ) (row : List Ref) (c : ClauseNo) → fits_in P limit row c ≡ true → FitsBehind P limit row c.0
fits_behind P limit row c e = leb-true _ _ e

pub behind_fits : (P : NamedProgram) (limit : ℕ) (row : List Ref) (c : ClauseNo) → FitsBehind P limit row c.0 → fits_in P limit row c ≡ true
behind_fits P limit row c h = le-leb _ _ h

-- One more behind
other_step : (p : ClauseNo → Bool) (d c : ClauseNo) (cs : List ClauseNo) (passes : Bool)
    → first_other p (cs ++ c ∷ []) ≡ with_other (first_other p cs) c (p c)
    → cond passes (first_other p (cs ++ c ∷ [])) (Some d) ≡ with_other (cond passes (first_other p cs) (Some d)) c (p c)
other_step p d c cs true e = e
other_step p d c cs false e = refl

pub first_other-push : (p : ClauseNo → Bool) (cs : List ClauseNo) (c : ClauseNo)
    → first_other p (cs ++ c ∷ []) ≡ with_other (first_other p cs) c (p c)
first_other-push p [] c = refl
first_other-push p (d ∷ cs) c = other_step p d c cs (p d) (first_other-push p cs c)

next_is : (cs : List ClauseNo) (i : ℕ) (c : ClauseNo) → slice_get cs i ≡ Some c → take (i + 1) cs ≡ take i cs ++ c ∷ []
next_is cs i c e = take_more cs i c (slice_get_within cs i c e)
    ∙ ap (λ (d : ClauseNo). take i cs ++ d ∷ []) (get_or_from_slice_get cs i c c e)

pub fitting_more : (p : ClauseNo → Bool) (cs : List ClauseNo) (i : ℕ) (c : ClauseNo) (old new : List ClauseNo) (passes : Bool)
    → slice_get cs i ≡ Some c → passes ≡ p c → old ≡ filter p (take i cs) → new ≡ old ++ cond passes (c ∷ []) []
    → new ≡ filter p (take (i + 1) cs)
fitting_more p cs i c old new passes at e kept is =
    is ∙ ap (λ (l : List ClauseNo). l ++ cond passes (c ∷ []) []) kept
    ∙ ap (λ (b : Bool). filter p (take i cs) ++ cond b (c ∷ []) []) e
    ∙ sym (filter-append p (take i cs) (c ∷ []))
    ∙ ap (filter p) (sym (next_is cs i c at))

pub heavy_more : (p : ClauseNo → Bool) (cs : List ClauseNo) (i : ℕ) (c : ClauseNo) (old new : Option ClauseNo) (passes : Bool)
    → slice_get cs i ≡ Some c → passes ≡ p c → old ≡ first_other p (take i cs) → new ≡ with_other old c passes
    → new ≡ first_other p (take (i + 1) cs)
heavy_more p cs i c old new passes at e kept is =
    is ∙ ap (λ (o : Option ClauseNo). with_other o c passes) kept
    ∙ ap (with_other (first_other p (take i cs)) c) e
    ∙ sym (first_other-push p (take i cs) c)
    ∙ ap (first_other p) (sym (next_is cs i c at))

-- ---- Those that fit

-- the numbers of a list
pub number_in : (cs : List ClauseNo) (c : ClauseNo) → Contains cs c → Contains (numbers cs) c.0
number_in [] c h = absurd (contains_none c h)
number_in (d ∷ cs) c h = elim (contains_cases d c cs h) [
  | inl e ↦ subst (λ (x : ClauseNo). Contains (numbers (d ∷ cs)) x.0) (sym e) (contains_first d.0 (numbers cs))
  | inr i ↦ contains_more d.0 c.0 (numbers cs) (number_in cs c i)
]

module _ (P : NamedProgram) (limit : ℕ) (row : List Ref) where
  abbrev p : ClauseNo → Bool
  p = fits_in P limit row

  abbrev Fits : ℕ → Type 0
  Fits c = FitsBehind P limit row c

  kept_if : (d : ClauseNo) (cs : List ClauseNo) (c : ℕ) (passes : Bool) → p d ≡ passes
      → (Contains (numbers (filter p cs)) c → Contains (numbers cs) c × Fits c)
      → Contains (numbers (cond passes (d ∷ filter p cs) (filter p cs))) c → Contains (numbers (d ∷ cs)) c × Fits c
  kept_if d cs c true e f h = elim (contains_cases d.0 c (numbers (filter p cs)) h) [
    | inl same ↦ (
      subst (λ (x : ℕ). Contains (numbers (d ∷ cs)) x) (sym same) (contains_first d.0 (numbers cs)),
      subst Fits (sym same) (fits_behind P limit row d e),
    )
    | inr i ↦ let r = f i in (contains_more d.0 c (numbers cs) r.0, r.1)
  ]
  kept_if d cs c false e f h = let r = f h in (contains_more d.0 c (numbers cs) r.0, r.1)

  fitting_fits : (cs : List ClauseNo) (c : ℕ) → Contains (numbers (filter p cs)) c → Contains (numbers cs) c × Fits c
  fitting_fits [] c h = absurd (contains_none c h)
  fitting_fits (d ∷ cs) c h = kept_if d cs c (p d) refl (fitting_fits cs c) h

  if_kept : (d : ClauseNo) (cs : List ClauseNo) (c : ℕ) (passes : Bool) → p d ≡ passes → (c ≡ d.0) ⊎ Contains (numbers (filter p cs)) c
      → Fits c
      → Contains (numbers (cond passes (d ∷ filter p cs) (filter p cs))) c
  if_kept d cs c true e (inl same) h =
      subst (λ (x : ℕ). Contains (numbers (d ∷ filter p cs)) x) (sym same) (contains_first d.0 (numbers (filter p cs)))
  if_kept d cs c true e (inr i) h = contains_more d.0 c (numbers (filter p cs)) i
  if_kept d cs c false e (inl same) h = absurd (true≢false (sym (behind_fits P limit row d (subst Fits same h)) ∙ e))
  if_kept d cs c false e (inr i) h = i

  fits_fitting : (cs : List ClauseNo) (c : ℕ) → Contains (numbers cs) c → Fits c → Contains (numbers (filter p cs)) c
  fits_fitting [] c h f = absurd (contains_none c h)
  fits_fitting (d ∷ cs) c h f = elim (contains_cases d.0 c (numbers cs) h) [
    | inl same ↦ if_kept d cs c (p d) refl (inl same) f
    | inr i ↦ if_kept d cs c (p d) refl (inr (fits_fitting cs c i f)) f
  ]

  -- Just the numbers that fit are kept,
  pub fitting_are : (cs : List ClauseNo) (c : ℕ) → Contains (numbers (filter p cs)) c ↔ (Contains (numbers cs) c × Fits c)
  fitting_are cs c = (fitting_fits cs c, λ x. fits_fitting cs c x.0 x.1)

  number_at : (cs : List ClauseNo) (i d : ℕ) → i < length cs → get_or (numbers cs) i d ≡ (get_or cs i (record { 0 = d })).0
  number_at cs i d l = get_or-map (λ (c : ClauseNo). c.0) cs i (record { 0 = d }) d l

  -- in their order.
  pub numbers_rising : (cs : List ClauseNo) → AllPairs (λ (c d : ClauseNo). c.0 < d.0) cs → AllPairs (λ (c d : ℕ). c < d) (numbers cs)
  numbers_rising cs h i j d l m =
      let k : j < length cs = omega (arith, length-map cs (λ (c : ClauseNo). c.0)) in
      let one : get_or (numbers cs) i d ≡ (get_or cs i (record { 0 = d })).0 = number_at cs i d (omega arith) in
      let other : get_or (numbers cs) j d ≡ (get_or cs j (record { 0 = d })).0 = number_at cs j d k in
      let low : (get_or cs i (record { 0 = d })).0 < (get_or cs j (record { 0 = d })).0 = h i j (record { 0 = d }) l k in
      omega arith

  pub fitting_rising : (cs : List ClauseNo) → AllPairs (λ (c d : ClauseNo). c.0 < d.0) cs
      → AllPairs (λ (c d : ℕ). c < d) (numbers (filter p cs))
  fitting_rising cs h = numbers_rising (filter p cs) (AllPairs-filter (λ (c d : ClauseNo). c.0 < d.0) p cs h)

  -- ---- The first that does not fit

  abbrev IsOther : List ClauseNo → ℕ → Type 0
  IsOther cs d = Contains (numbers cs) d × (Fits d → ⊥)

  not_below : (d : ClauseNo) (cs : List ClauseNo) → AllPairs (λ (c e : ClauseNo). c.0 < e.0) (d ∷ cs) → (e : ℕ)
      → Contains (numbers (d ∷ cs)) e → d.0 ≤ e
  not_below d cs h e i = elim (contains_cases d.0 e (numbers cs) i) [
    | inl same ↦ omega arith
    | inr j ↦ let l : d.0 < e = below cs e (all_pairs_first (λ (c f : ClauseNo). c.0 < f.0) d cs h) j in omega arith
  ]
    where
      below : (cs : List ClauseNo) (e : ℕ) → All (λ (f : ClauseNo). d.0 < f.0) cs → Contains (numbers cs) e → d.0 < e
      below [] e a i = absurd (contains_none e i)
      below (f ∷ cs) e a i = elim (contains_cases f.0 e (numbers cs) i) [
        | inl same ↦ subst (λ (x : ℕ). d.0 < x) (sym same) (all_first (λ (f : ClauseNo). d.0 < f.0) f cs a)
        | inr j ↦ below cs e (all_rest (λ (f : ClauseNo). d.0 < f.0) f cs a) j
      ]

  first_moved : (A B : ℕ → Type 0) (o : Option ℕ) → ((d : ℕ) → A d → B d) → ((d : ℕ) → B d → A d) → IsFirst A o → IsFirst B o
  first_moved A B None f g h = λ d x. h d (g d x)
  first_moved A B (Some c) f g h = (f c h.0, λ d x. h.1 d (g d x))

  first_step : (d : ClauseNo) (cs : List ClauseNo) → AllPairs (λ (c e : ClauseNo). c.0 < e.0) (d ∷ cs) → (passes : Bool) → p d ≡ passes
      → IsFirst (IsOther cs) (option_map (λ (c : ClauseNo). c.0) (first_other p cs))
      → IsFirst (IsOther (d ∷ cs)) (option_map (λ (c : ClauseNo). c.0) (cond passes (first_other p cs) (Some d)))
  first_step d cs h true e rest =
      let fits : Fits d.0 = fits_behind P limit row d e in
      first_moved (IsOther cs) (IsOther (d ∷ cs)) (option_map (λ (c : ClauseNo). c.0) (first_other p cs))
      (λ c x. (contains_more d.0 c (numbers cs) x.0, x.1))
      (λ c x. elim (contains_cases d.0 c (numbers cs) x.0) [ inl same ↦ absurd (x.1 (subst Fits (sym same) fits)) | inr i ↦ (i, x.1) ]) rest
  first_step d cs h false e rest = (
    (contains_first d.0 (numbers cs), λ f. true≢false (sym (behind_fits P limit row d f) ∙ e)),
    λ c x. not_below d cs h c x.0,
  )

  pub first_is : (cs : List ClauseNo) → AllPairs (λ (c d : ClauseNo). c.0 < d.0) cs
      → IsFirst (IsOther cs) (option_map (λ (c : ClauseNo). c.0) (first_other p cs))
  first_is [] h = λ d x. contains_none d x.0
  first_is (d ∷ cs) h = first_step d cs h (p d) refl (first_is cs (all_pairs_rest (λ (c e : ClauseNo). c.0 < e.0) d cs h))
