-- A row stays sound when a free word of it is set, and when free words are put behind it.
use Rattle.std.proofs.Common.{ℕ, zero, suc, ◌≡◌, ◌≢◌, ◌+◌, ◌^◌, ◌<◌, ◌≤◌, List, [], ◌∷◌, ◌++◌, length, get_or, set, replicate, refl, sym, ap, subst, ◌∙◌, ◌⊎◌}
use Rattle.std.proofs.Common.{inl, inr, arith}
use Rattle.std.proofs.lemmas.Bool.{cases_eq, cases_lt}
use Rattle.std.proofs.lemmas.List.{get_or_append_left, get_or-append_right, get_or-set_same, get_or-set_other, length-append, length-replicate}
use Rattle.std.proofs.Math.ListN.{length-set}
use Rattle.std.proofs.lemmas.List.Elements.{All-weaker}
use Rattle.and_model.specs.declared.limits.TheConstants.{MAX_WORDS}
use Rattle.and_model.specs.Terms.{variables_of}
use Rattle.and_program.specs.Skeletons.{node_term}
use Rattle.and_model.specs.declared.reference.Ref.{Ref}
use Rattle.and_model.specs.declared.reference.Ref.TheVariants.{Free, Cell, Node, Number, Half}
use Rattle.and_cells.specs.Ranges.{NamedProgram, CanHold}
use Rattle.and_cells.specs.Seen.{word_at}
use Rattle.and_cells.specs.Rows.{IsSound}

pub free_or_set : (r : Ref) → (r ≡ Free) ⊎ (r ≢ Free)
free_or_set Free = inl refl
free_or_set (Cell cell) = inr (λ e. cc)
free_or_set (Node node base) = inr (λ e. cc)
free_or_set (Number pair) = inr (λ e. cc)
free_or_set (Half bits) = inr (λ e. cc)

-- what a word may be, it may be where there are more words
pub can_hold_more : (P : NamedProgram) (n m place : ℕ) (r : Ref) → n ≤ m → CanHold P n place r → CanHold P m place r
can_hold_more P n m place Free more fits = tt
can_hold_more P n m place (Cell cell) more fits = fits
can_hold_more P n m place (Node node base) more fits = (
  record {
    there = fits.0.there;
    nameable = fits.0.nameable;
    base_below = fits.0.base_below;
    cells = All-weaker (λ v. base + 1 + v.1 < n) (λ v. base + 1 + v.1 < m) (λ v below. omega arith)
        (variables_of (node_term P.skeleton.nodes node.0)) fits.0.cells;
  },
  fits.1,
)
can_hold_more P n m place (Number pair) more fits = omega arith
can_hold_more P n m place (Half bits) more fits = tt

pub word_set_here : (row : List Ref) (place p : ℕ) (r : Ref) → place < length row → p ≡ place → word_at (set row place r) p ≡ r
word_set_here row place p r below same = ap (λ q. get_or (set row place r) q Free) same ∙ get_or-set_same row place r Free below

pub word_set_other : (row : List Ref) (place p : ℕ) (r : Ref) → p ≢ place → word_at (set row place r) p ≡ word_at row p
word_set_other row place p r other = get_or-set_other row place p r Free other

-- a word that is set stays so
pub set_stays : (row : List Ref) (place p : ℕ) (r : Ref) → word_at row place ≡ Free → word_at row p ≢ Free → word_at (set row place r) p ≢ Free
set_stays row place p r free is_set e = by_place (cases_eq p place)
  where
    by_place : (p ≡ place) ⊎ (p ≢ place) → ⊥
    by_place (inl same) = is_set (ap (word_at row) same ∙ free)
    by_place (inr other) = is_set (sym (word_set_other row place p r other) ∙ e)

pub sound_set : (P : NamedProgram) (row : List Ref) (place : ℕ) (r : Ref) → IsSound P row → place < length row → word_at row place ≡ Free
    → CanHold P (length row) place r → ((pair : ℕ) → r ≡ Number pair → (word_at row pair ≢ Free) × (word_at row (suc pair) ≢ Free))
    → IsSound P (set row place r)
sound_set P row place r sound below free fits written = record {
  fits = λ p. subst (λ n. CanHold P n p (word_at (set row place r) p)) (sym (length-set row place r)) (fits_at p (cases_eq p place));
  written = λ p pair is. (
    set_stays row place pair r free (was p pair is (cases_eq p place)).0,
    set_stays row place (suc pair) r free (was p pair is (cases_eq p place)).1,
  );
  short = subst (λ n. n ≤ MAX_WORDS) (sym (length-set row place r)) sound.short;
}
  where
    fits_at : (p : ℕ) → (p ≡ place) ⊎ (p ≢ place) → CanHold P (length row) p (word_at (set row place r) p)
    fits_at p (inl same) = subst (λ w. CanHold P (length row) p w) (sym (word_set_here row place p r below same))
        (subst (λ q. CanHold P (length row) q r) (sym same) fits)
    fits_at p (inr other) = subst (λ w. CanHold P (length row) p w) (sym (word_set_other row place p r other)) (sound.fits p)

    was : (p pair : ℕ) → word_at (set row place r) p ≡ Number pair → (p ≡ place) ⊎ (p ≢ place) → (word_at row pair ≢ Free) × (word_at row (suc pair) ≢ Free)
    was p pair is (inl same) = written pair (sym (word_set_here row place p r below same) ∙ is)
    was p pair is (inr other) = sound.written p pair (sym (word_set_other row place p r other) ∙ is)

free_in : (n p : ℕ) → word_at (replicate n Free) p ≡ Free
free_in zero p = refl
free_in (suc n) zero = refl
free_in (suc n) (suc p) = free_in n p

-- beyond the end a word counts as free
pub nothing_there : (row : List Ref) (p : ℕ) → length row ≤ p → word_at row p ≡ Free
nothing_there [] p past = refl
nothing_there (r ∷ row) zero past = absurd (omega arith)
nothing_there (r ∷ row) (suc p) past = nothing_there row p (omega arith)

-- free words behind a row change no word
pub word_in_front : (row : List Ref) (by p : ℕ) → word_at (row ++ replicate by Free) p ≡ word_at row p
word_in_front row by p = by_place (cases_lt p (length row))
  where
    by_place : (p < length row) ⊎ (length row ≤ p) → word_at (row ++ replicate by Free) p ≡ word_at row p
    by_place (inl below) = get_or_append_left row (replicate by Free) Free p below
    by_place (inr past) = get_or-append_right row (replicate by Free) (length row) p Free refl past ∙ free_in by _ ∙ sym (nothing_there row p past)

pub sound_extend : (P : NamedProgram) (row : List Ref) (by : ℕ) → IsSound P row → length row + by ≤ 2 ^ 22 + 256 → IsSound P (row ++ replicate by Free)
sound_extend P row by sound short =
    let long : length (row ++ replicate by Free) ≡ length row + by =
    length-append row (replicate by Free) ∙ ap (λ n. length row + n) (length-replicate by Free) in
    let same : (p : ℕ) → word_at (row ++ replicate by Free) p ≡ word_at row p = word_in_front row by in record {
      fits = λ p. subst (λ w. CanHold P (length (row ++ replicate by Free)) p w) (sym (same p))
          (can_hold_more P (length row) (length (row ++ replicate by Free)) p (word_at row p) (omega arith) (sound.fits p));
      written = λ p pair is. let was =
          sound.written p pair (sym (same p) ∙ is) in ((λ e. was.0 (sym (same pair) ∙ e)), (λ e. was.1 (sym (same (suc pair)) ∙ e)));
      short = omega arith;
    }

pub sound_free : (P : NamedProgram) (n : ℕ) → n ≤ 2 ^ 22 + 256 → IsSound P (replicate n Free)
sound_free P n short = record {
  fits = λ p. subst (λ w. CanHold P (length (replicate n Free)) p w) (sym (free_in n p)) tt;
  written = λ p pair is. absurd (let e = sym (free_in n p) ∙ is in cc);
  short = let long = length-replicate n Free in omega arith;
}
