-- Rows as they are kept in words of 64 bits, and the steps on a row that is told.
use Rattle.std.proofs.Common.{ℕ, ℤ, zero, suc, ◌≡◌, ◌≢◌, ◌+◌, ◌*◌, ◌/◌, ◌%◌, ◌^◌, ◌<◌, ◌≤◌, List, [], ◌∷◌, ◌++◌, length, get_or, set, replicate, refl, sym, ap, subst}
use Rattle.std.proofs.Common.{◌∙◌, ◌⊎◌, inl, inr, arith, false}
use Rattle.std.proofs.lemmas.Bool.{cases_eq}
use Rattle.std.proofs.lemmas.List.{map-append, map-set, length-map, get_or-map}
use Rattle.std.proofs.lemmas.List.Elements.{All-set, All-append, All-replicate, All-nil, All-get_or}
use Rattle.std.proofs.Math.ListN.{length-set}
use Rattle.and_model.specs.Words.{HasWord, word_of}
use Rattle.and_model.specs.Store.{Known}
use Rattle.and_model.specs.declared.reference.Ref.{Ref}
use Rattle.and_model.specs.declared.reference.Ref.TheVariants.{Free, Cell, Node, Number, Half}
use Rattle.and_cells.specs.Ranges.{NamedProgram, CanHold, IsInRange}
use Rattle.and_cells.specs.Numbers.{number_of}
use Rattle.and_cells.specs.Seen.{word_at, Knows, IsKnownWritten, Finds, Sets, Fills, ReadsNumber, OnlyReads}
use Rattle.and_cells.specs.Rows.{plain, IsSound, IsBelow, ref_of, row_of, AreWords}
use Rattle.and_cells.proofs.Keeping.{free_or_set, word_set_here, word_set_other, sound_set, sound_extend, sound_free}

pub ref_of_word : (r : Ref) → HasWord r → ref_of (word_of r) ≡ r
ref_of_word Free has = refl
ref_of_word (Cell cell) has =
    let e : (8 * cell + 1) % 8 ≡ 1 = omega arith in
    let f : (8 * cell + 1) / 8 ≡ cell = omega arith in rw (e, f) refl
ref_of_word (Node node base) has =
    let n : ℕ = 2 ^ 23 * node.0 + base in
    let e : (8 * n + 2) % 8 ≡ 2 = omega arith in
    let f : (8 * n + 2) / 8 ≡ n = omega arith in
    let base_below : base < 2 ^ 23 = has.1 in
    let g : n / 2 ^ 23 ≡ node.0 = omega arith in
    let h : n % 2 ^ 23 ≡ base = omega arith in rw (e, f, g, h) refl
ref_of_word (Number pair) has =
    let e : (8 * pair + 3) % 8 ≡ 3 = omega arith in
    let f : (8 * pair + 3) / 8 ≡ pair = omega arith in rw (e, f) refl
ref_of_word (Half bits) has =
    let e : (8 * bits + 4) % 8 ≡ 4 = omega arith in
    let f : (8 * bits + 4) / 8 ≡ bits = omega arith in rw (e, f) refl

pub row_set : (ws : List ℕ) (place : ℕ) (r : Ref) → HasWord r → row_of (set ws place (word_of r)) ≡ set (row_of ws) place r
row_set ws place r has = map-set ref_of ws place (word_of r) ∙ ap (set (row_of ws) place) (ref_of_word r has)

pub row_replicate : (n : ℕ) → row_of (replicate n 0) ≡ replicate n Free
row_replicate zero = refl
row_replicate (suc n) = ap (λ row. Free ∷ row) (row_replicate n)

pub row_extend : (ws : List ℕ) (by : ℕ) → row_of (ws ++ replicate by 0) ≡ row_of ws ++ replicate by Free
row_extend ws by = map-append ref_of ws (replicate by 0) ∙ ap (λ row. row_of ws ++ row) (row_replicate by)

pub words_set : (ws : List ℕ) (place : ℕ) (r : Ref) → HasWord r → AreWords ws → AreWords (set ws place (word_of r))
words_set ws place r has are =
    All-set (λ w. HasWord (ref_of w) × (word_of (ref_of w) ≡ w)) ws place (word_of r)
    (subst HasWord (sym (ref_of_word r has)) has, ap word_of (ref_of_word r has)) are

pub words_free : (n : ℕ) → AreWords (replicate n 0)
words_free n = All-replicate (λ w. HasWord (ref_of w) × (word_of (ref_of w) ≡ w)) n 0 (tt, refl)

pub words_extend : (ws : List ℕ) (by : ℕ) → AreWords ws → AreWords (ws ++ replicate by 0)
words_extend ws by are = All-append (λ w. HasWord (ref_of w) × (word_of (ref_of w) ≡ w)) ws (replicate by 0) are (words_free by)

-- what is in range has a word, unless it is a half
pub has_word : (P : NamedProgram) (words : ℕ) (r : Ref) → words ≤ 2 ^ 22 + 256 → IsInRange P words r → HasWord r
has_word P words Free short fits = elim fits [ ]
has_word P words (Cell cell) short fits = omega arith
has_word P words (Node node base) short fits = (fits.0.nameable, fits.0.base_below)
has_word P words (Number pair) short fits = omega arith
has_word P words (Half bits) short fits = elim fits [ ]

-- and a place may hold it, if it is no cell from there on
pub can_hold : (P : NamedProgram) (words place : ℕ) (r : Ref) → IsInRange P words r → ((other : ℕ) → r ≡ Cell other → other < place) → CanHold P words place r
can_hold P words place Free fits falls = tt
can_hold P words place (Cell cell) fits falls = falls cell refl
can_hold P words place (Node node base) fits falls = fits
can_hold P words place (Number pair) fits falls = fits
can_hold P words place (Half bits) fits falls = tt

pub in_range_is_set : (P : NamedProgram) (words : ℕ) (r : Ref) → IsInRange P words r → r ≢ Free
in_range_is_set P words r fits e = subst (IsInRange P words) e fits

pub plain_finds : (P : NamedProgram) (row : List Ref) (place : ℕ) (r : Ref) → r ≡ word_at row place → r ≢ Free → CanHold P (length row) place r
    → Finds P place r (plain row) (plain row)
plain_finds P row place r is is_set fits = record {
  is_set = is_set;
  fits = fits;
  as_known = λ q knows. is ∙ knows.0;
  adds = λ p q. (inl, back p q);
  gains = inl refl;
  words = refl;
  told = refl;
  missed = refl;
}
  where
    back : (p : ℕ) (q : Ref) → Knows (plain row) p q ⊎ ((p ≡ place) × (q ≡ r)) → Knows (plain row) p q
    back p q (inl known) = known
    back p q (inr new) = (ap (word_at row) new.0 ∙ sym is ∙ sym new.1, λ e. is_set (sym new.1 ∙ e))

pub plain_sets : (row : List Ref) (place : ℕ) (r : Ref) → place < length row → word_at row place ≡ Free → r ≢ Free
    → Sets place r (plain row) (plain (set row place r))
plain_sets row place r below free is_set = record {
  not_known = λ q knows. knows.1 (sym knows.0 ∙ free);
  free = free;
  adds = λ p q. (forth p q (cases_eq p place), back p q (cases_eq p place));
  gains = inl refl;
  words = length-set row place r;
  told = refl;
  missed = inl refl;
}
  where
    forth : (p : ℕ) (q : Ref) → (p ≡ place) ⊎ (p ≢ place) → Knows (plain (set row place r)) p q → Knows (plain row) p q ⊎ ((p ≡ place) × (q ≡ r))
    forth p q (inl same) knows = inr (same, sym knows.0 ∙ word_set_here row place p r below same)
    forth p q (inr other) knows = inl (sym (word_set_other row place p r other) ∙ knows.0, knows.1)

    back : (p : ℕ) (q : Ref) → (p ≡ place) ⊎ (p ≢ place) → Knows (plain row) p q ⊎ ((p ≡ place) × (q ≡ r)) → Knows (plain (set row place r)) p q
    back p q (inl same) (inl known) = absurd (known.1 (sym known.0 ∙ ap (word_at row) same ∙ free))
    back p q (inr other) (inl known) = (word_set_other row place p r other ∙ known.0, known.1)
    back p q same (inr new) = (word_set_here row place p r below new.0 ∙ sym new.1, λ e. is_set (sym new.1 ∙ e))

pub plain_fills : (P : NamedProgram) (row after : List Ref) (place : ℕ) (half r : Ref) → place < length row → half ≢ Free
    → (word_at row place ≡ Free → (after ≡ set row place half) × (r ≡ half)) → (word_at row place ≢ Free → (after ≡ row) × (r ≡ word_at row place))
    → CanHold P (length row) place r
    → Fills P place half r (plain row) (plain after)
plain_fills P row after place half r below is_set free found fits = by_word (free_or_set (word_at row place))
  where
    by_word : (word_at row place ≡ Free) ⊎ (word_at row place ≢ Free) → Fills P place half r (plain row) (plain after)
    by_word (inl e) = inl (
      subst (λ a. Sets place r (plain row) (plain a)) (sym (free e).0)
          (subst (λ h. Sets place r (plain row) (plain (set row place h))) (free e).1
          (plain_sets row place r below e (λ none. is_set (sym (free e).1 ∙ none)))),
      (free e).1,
    )
    by_word (inr e) = inr (subst (λ a. Finds P place r (plain row) (plain a)) (sym (found e).0)
        (plain_finds P row place r (found e).1 (λ none. e (sym (found e).1 ∙ none)) fits))

pub plain_reads : (row : List Ref) → OnlyReads (plain row) (plain row)
plain_reads row = record {
  keeps = λ p r known. known;
  learnt = [];
  gains = refl;
  none_own = All-nil (λ (k : Known). k.is_own ≡ false);
  words = refl;
  told = refl;
  missed = ([], refl);
}

-- what plain cells keep, where they are made, grow and are set
pub kept_free : (P : NamedProgram) (n : ℕ) → n ≤ 2 ^ 22 + 256 → AreWords (replicate n 0) × IsSound P (row_of (replicate n 0))
kept_free P n short = (words_free n, subst (IsSound P) (sym (row_replicate n)) (sound_free P n short))

pub kept_extend : (P : NamedProgram) (ws : List ℕ) (by : ℕ) → AreWords ws × IsSound P (row_of ws) → length (row_of ws) + by ≤ 2 ^ 22 + 256
    → AreWords (ws ++ replicate by 0) × IsSound P (row_of (ws ++ replicate by 0))
kept_extend P ws by kept short = (words_extend ws by kept.0, subst (IsSound P) (sym (row_extend ws by)) (sound_extend P (row_of ws) by kept.1 short))

pub kept_set : (P : NamedProgram) (ws : List ℕ) (place : ℕ) (r : Ref) → AreWords ws × IsSound P (row_of ws) → place < length (row_of ws) → HasWord r
    → word_at (row_of ws) place ≡ Free
    → CanHold P (length (row_of ws)) place r → ((pair : ℕ) → r ≡ Number pair → (word_at (row_of ws) pair ≢ Free) × (word_at (row_of ws) (suc pair) ≢ Free))
    → AreWords (set ws place (word_of r)) × IsSound P (row_of (set ws place (word_of r)))
kept_set P ws place r kept below has free fits written =
    (words_set ws place r has kept.0, subst (IsSound P) (sym (row_set ws place r has)) (sound_set P (row_of ws) place r kept.1 below free fits written))

-- the same, where the row and the word have names of their own
pub named_set : (P : NamedProgram) (ws : List ℕ) (row : List Ref) (place w : ℕ) (r : Ref) → row_of ws ≡ row → w ≡ word_of r → AreWords ws × IsSound P (row_of ws)
    → place < length row → HasWord r → word_at row place ≡ Free
    → CanHold P (length row) place r → ((pair : ℕ) → r ≡ Number pair → (word_at row pair ≢ Free) × (word_at row (suc pair) ≢ Free))
    → (AreWords (set ws place w) × IsSound P (row_of (set ws place w))) × (row_of (set ws place w) ≡ set row place r)
named_set P ws row place w r is word kept below has free fits written =
    subst (λ v. (AreWords (set ws place v) × IsSound P (row_of (set ws place v))) × (row_of (set ws place v) ≡ set row place r)) (sym word)
    (all row is below free fits written)
  where
    all : (row : List Ref) → row_of ws ≡ row → place < length row → word_at row place ≡ Free → CanHold P (length row) place r
        → ((pair : ℕ) → r ≡ Number pair → (word_at row pair ≢ Free) × (word_at row (suc pair) ≢ Free))
        → (AreWords (set ws place (word_of r)) × IsSound P (row_of (set ws place (word_of r)))) × (row_of (set ws place (word_of r)) ≡ set row place r)
    all row is = subst (λ row. place < length row → word_at row place ≡ Free → CanHold P (length row) place r
        → ((pair : ℕ) → r ≡ Number pair → (word_at row pair ≢ Free) × (word_at row (suc pair) ≢ Free))
        → (AreWords (set ws place (word_of r)) × IsSound P (row_of (set ws place (word_of r)))) × (row_of (set ws place (word_of r)) ≡ set row place r)) is
        (λ below free fits written. (kept_set P ws place r kept below has free fits written, row_set ws place r has))

-- The word in which the reference at a place is kept.
pub word_read : (ws : List ℕ) (row : List Ref) (place w : ℕ) → row_of ws ≡ row → AreWords ws → place < length row → w ≡ get_or ws place w
    → (word_at row place ≡ ref_of w) × HasWord (ref_of w) × (word_of (ref_of w) ≡ w)
word_read ws row place w is are below read =
    let long : length row ≡ length ws = sym (ap (λ (r : List Ref). length r) is) ∙ length-map ws ref_of in
    let there : place < length ws = omega (arith, long, below) in
    let P : ℕ → Type 0 = λ v. HasWord (ref_of v) × (word_of (ref_of v) ≡ v) in
    let kept : P w = subst P (sym read) (All-get_or P ws place w there are) in
    (ap (λ r. word_at r place) (sym is) ∙ get_or-map ref_of ws place w Free there ∙ ap ref_of (sym read), kept.0, kept.1)

-- It is that of `Free` where it is 0 and nowhere else.
pub free_where_zero : (w : ℕ) → word_of (ref_of w) ≡ w → (w ≡ 0 → ref_of w ≡ Free) × (ref_of w ≡ Free → w ≡ 0)
free_where_zero w kept = (λ none. ap ref_of none, λ free. sym kept ∙ ap word_of free)

-- A structure or a number begins below the floor.
pub below_word : (w floor : ℕ) → w % 8 / 2 ≡ 1 → w / 8 % 2 ^ 23 < floor → IsBelow floor (ref_of w)
below_word w floor ends below = elim (cases_eq (w % 8) 2) [
  | inl structure ↦ rw structure below
  | inr other ↦ let number : w % 8 ≡ 3 = omega arith in rw number tt
]

-- in a sound row, a pair that is known to be written has both its words set
pub written_in_row : (P : NamedProgram) (row : List Ref) (pair : ℕ) → IsSound P row → IsKnownWritten (plain row) pair
    → (word_at row pair ≢ Free) × (word_at row (suc pair) ≢ Free)
written_in_row P row pair sound (inl both) = ((λ e. both.0.1.1 (sym both.0.1.0 ∙ e)), (λ e. both.1.1.1 (sym both.1.1.0 ∙ e)))
written_in_row P row pair sound (inr cell) = sound.written cell.0 pair cell.1.0

-- reading a number in a row that is told
pub plain_reads_number : (P : NamedProgram) (row : List Ref) (pair next : ℕ) (high low : Ref) (result : ℤ) → IsSound P row → next ≡ suc pair
    → IsKnownWritten (plain row) pair
    → high ≡ word_at row pair → low ≡ word_at row next → result ≡ number_of high low → ReadsNumber P pair result (plain row) (plain row)
plain_reads_number P row pair next high low result sound is_next known is_high is_low holds =
    let both = written_in_row P row pair sound known in
    let low_is : low ≡ word_at row (suc pair) = is_low ∙ ap (word_at row) is_next in record {
      high = high;
      low = low;
      high_known = (sym is_high, λ e. both.0 (sym is_high ∙ e));
      low_known = (sym low_is, λ e. both.1 (sym low_is ∙ e));
      fits = (
        subst (CanHold P (length row) pair) (sym is_high) (sound.fits pair),
        subst (CanHold P (length row) (suc pair)) (sym low_is) (sound.fits (suc pair)),
      );
      holds = holds;
      only = λ p q knows. inl knows;
    }
