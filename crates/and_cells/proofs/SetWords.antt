-- The set words of a row as a list of settings.
use Rattle.std.proofs.Common.{ℕ, zero, suc, ◌≡◌, ◌≢◌, ◌+◌, ◌^◌, ◌<◌, ◌≤◌, ◌⊎◌, inl, inr, true, false, cond, List, [], ◌∷◌, map, length, take, refl, sym, ap}
use Rattle.std.proofs.Common.{subst, ◌∙◌, arith}
use Rattle.std.specs.Prelude.{Contains}
use Rattle.std.proofs.lemmas.Bool.{cases_lt}
use Rattle.std.proofs.lemmas.List.{get_or-take, get_or_past, length-take-le}
use Rattle.and_model.specs.declared.limits.TheConstants.{MAX_WORDS}
use Rattle.and_model.specs.Store.{Setting, set_in, set_from, is_free, IsWritten}
use Rattle.and_model.specs.declared.reference.Ref.{Ref}
use Rattle.and_model.specs.declared.reference.Ref.TheVariants.{Free, Cell, Node, Number, Half}
use Rattle.and_cells.specs.Ranges.{NamedProgram, CanHold}
use Rattle.and_cells.specs.Rows.{IsSound}
use Rattle.and_cells.specs.Seen.{word_at, IsSetTo}
use Rattle.and_cells.proofs.Among.{among_first, among_more, among_cases, among_none, map_among}
use Rattle.and_cells.proofs.Keeping.{free_or_set}

abbrev setting : ℕ → Ref → Setting
setting place value = record { place = place; value = value }

is_or : (r : Ref) → ((is_free r ≡ true) × (r ≡ Free)) ⊎ ((is_free r ≡ false) × (r ≢ Free))
is_or Free = inl (refl, refl)
is_or (Cell cell) = inr (refl, λ e. cc)
is_or (Node node base) = inr (refl, λ e. cc)
is_or (Number pair) = inr (refl, λ e. cc)
is_or (Half bits) = inr (refl, λ e. cc)

set_from_is : (n : ℕ) (row : List Ref) (s : Setting) → Contains (set_from n row) s → (i : ℕ) × (s.place ≡ n + i) × IsSetTo row i s.value
set_from_is n [] s has = absurd (among_none s has)
set_from_is n (r ∷ row) s has = elim (is_or r) [
  | inl free ↦
      let t = set_from_is (suc n) row s (subst (λ b. Contains (cond b (set_from (suc n) row) (setting n r ∷ set_from (suc n) row)) s) free.0 has) in
      let at = t.1 in (suc t.0, omega arith, t.2)
  | inr set ↦ elim (among_cases (setting n r) s (set_from (suc n) row)
      (subst (λ b. Contains (cond b (set_from (suc n) row) (setting n r ∷ set_from (suc n) row)) s) set.0 has)) [
        | inl first ↦ (let at = ap (λ (s : Setting). s.place) first in
            let is = ap (λ (s : Setting). s.value) first in (0, omega arith, (sym is, λ e. set.1 (sym is ∙ e))))
        | inr rest ↦ (let t = set_from_is (suc n) row s rest in let at = t.1 in (suc t.0, omega arith, t.2))
      ]
]

set_from_has : (n i : ℕ) (row : List Ref) (r : Ref) → IsSetTo row i r → Contains (set_from n row) (setting (n + i) r)
set_from_has n i [] r is = absurd (is.1 (sym is.0))
set_from_has n zero (q ∷ row) r is =
    let here : n + 0 ≡ n = omega arith in
    elim (is_or q) [
      | inl free ↦ absurd (is.1 (sym is.0 ∙ free.1))
      | inr set ↦ subst (λ b. Contains (cond b (set_from (suc n) row) (setting n q ∷ set_from (suc n) row)) (setting (n + 0) r)) (sym set.0)
          (subst (Contains (setting n q ∷ set_from (suc n) row)) (ap (λ p. setting p q) (sym here) ∙ ap (setting (n + 0)) is.0)
          (among_first (setting n q) (set_from (suc n) row)))
    ]
set_from_has n (suc i) (q ∷ row) r is =
    let there : suc n + i ≡ n + suc i = omega arith in
    let rest : Contains (set_from (suc n) row) (setting (n + suc i) r) =
    subst (λ p. Contains (set_from (suc n) row) (setting p r)) there (set_from_has (suc n) i row r is) in
    elim (is_or q) [
      | inl free ↦ subst (λ b. Contains (cond b (set_from (suc n) row) (setting n q ∷ set_from (suc n) row)) (setting (n + suc i) r)) (sym free.0) rest
      | inr set ↦ subst (λ b. Contains (cond b (set_from (suc n) row) (setting n q ∷ set_from (suc n) row)) (setting (n + suc i) r)) (sym set.0)
          (among_more (setting n q) (setting (n + suc i) r) (set_from (suc n) row) rest)
    ]

-- What is among the set words of a row is set so,
pub set_in_is : (row : List Ref) (s : Setting) → Contains (set_in row) s → IsSetTo row s.place s.value
set_in_is row s has =
    let t = set_from_is 0 row s has in
    let same : s.place ≡ t.0 = let at = t.1 in omega arith in
    subst (λ p. IsSetTo row p s.value) (sym same) t.2

-- and what is set is among them.
pub set_in_has : (row : List Ref) (place : ℕ) (r : Ref) → IsSetTo row place r → Contains (set_in row) (record { place = place; value = r })
set_in_has row place r is = let same : 0 + place ≡ place = omega arith in subst (λ p. Contains (set_in row) (setting p r)) same (set_from_has 0 place row r is)

-- A row whose set words all lie below a length and may stand there, and whose numbers are written, is sound when it is cut off there.
pub sound_by_settings : (P : NamedProgram) (row : List Ref) (words : ℕ) → words ≤ MAX_WORDS → words ≤ length row
    → ((s : Setting) → Contains (set_in row) s → (s.place < words) × CanHold P words s.place s.value)
    → ((s : Setting) → Contains (set_in row) s → (pair : ℕ) → s.value ≡ Number pair → IsWritten (set_in row) pair) → IsSound P (take words row)
sound_by_settings P row words few cut fits written = record {
  fits = λ p. subst (λ n. CanHold P n p (word_at (take words row) p)) (sym long) (fits_at p (cases_lt p words));
  written = λ p pair is.
      let was = subst (λ w. w ≡ Number pair) (at p (set_low p (λ free. let both : Free ≡ Number pair = sym free ∙ is in absurd (cc)))) is in
      let both = written (setting p (Number pair)) (set_in_has row p (Number pair) (was, λ e. cc)) pair refl in
      (still_set pair both.0, still_set (suc pair) both.1);
  short = subst (λ n. n ≤ MAX_WORDS) (sym long) few;
}
  where
    long : length (take words row) ≡ words
    long = length-take-le words row cut

    at : (p : ℕ) → p < words → word_at (take words row) p ≡ word_at row p
    at p below = get_or-take words row p Free below

    past : (p : ℕ) → words ≤ p → word_at (take words row) p ≡ Free
    past p high = get_or_past (take words row) p Free (subst (λ n. n ≤ p) (sym long) high)

    set_low : (p : ℕ) → word_at (take words row) p ≢ Free → p < words
    set_low p set = elim (cases_lt p words) [ inl below ↦ below | inr high ↦ absurd (set (past p high)) ]

    fits_at : (p : ℕ) → (p < words) ⊎ (words ≤ p) → CanHold P words p (word_at (take words row) p)
    fits_at p (inr high) = subst (CanHold P words p) (sym (past p high)) tt
    fits_at p (inl below) = subst (CanHold P words p) (sym (at p below)) (elim (free_or_set (word_at row p)) [
      | inl free ↦ subst (CanHold P words p) (sym free) tt
      | inr set ↦ (fits (setting p (word_at row p)) (set_in_has row p (word_at row p) (refl, set))).1
    ])

    still_set : (p : ℕ) → Contains (map (λ (s : Setting). s.place) (set_in row)) p → word_at (take words row) p ≢ Free
    still_set p has e =
        let (s, among, is) = map_among (λ (s : Setting). s.place) p (set_in row) has in
        let set : IsSetTo row p s.value = subst (λ q. IsSetTo row q s.value) is (set_in_is row s among) in
        let below : p < words = subst (λ q. q < words) is (fits s among).0 in
        set.1 (sym set.0 ∙ sym (at p below) ∙ e)
