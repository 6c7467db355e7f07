-- What looks and numbers that are read below make of an overlay, all at once.
use Rattle.std.proofs.Common.{ℕ, suc, ◌≡◌, ◌≢◌, ◌+◌, ◌<◌, ◌⊎◌, inl, inr, true, false, List, [], ◌∷◌, ◌++◌, refl, sym, subst, ◌∙◌, arith, append-nil, ap}
use Rattle.std.specs.Prelude.{All, Contains}
use Rattle.std.proofs.lemmas.List.Elements.{All-push, Contains-append_left}
use Rattle.and_model.specs.Prefixes.{IsPrefix}
use Rattle.and_model.specs.declared.reference.Ref.{Ref}
use Rattle.and_model.specs.declared.reference.Ref.TheVariants.{Free}
use Rattle.and_cells.specs.Ranges.{NamedProgram, CanHold}
use Rattle.and_cells.specs.Seen.{Seen, Knows, IsCoherent, IsKnownWritten, Finds, Misses, OnlyReads, ReadsNumber}
use Rattle.and_cells.proofs.Chains.{reads_more}
use Rattle.and_cells.proofs.Keeping.{free_or_set, can_hold_more}
use Rattle.and_overlay.specs.Overlaid.{Own, is_own, stands_in, seen_over, IsUnknown, IsOver}
use Rattle.and_overlay.proofs.Owned.{among_stands, stands_among}
use Rattle.and_overlay.proofs.Knowing.{settings_of, knows_from, knows_own, knows_below}
use Rattle.and_overlay.proofs.Stepping.{misses_below, finds_below, reads_below, over_later, fit_found, fit_missed}
use Rattle.and_overlay.proofs.Setting.{unknown_own}
use Rattle.and_overlay.proofs.Numbers.{number_below, pair_below, fit_read}

same_front : {X : Type 0} (xs ys : List X) → ys ≡ xs → IsPrefix xs ys
same_front xs ys same = ([], same ∙ sym (append-nil xs))

joined_front : (looked more : List ℕ) (p : ℕ) → (more ≡ looked) ⊎ (more ≡ looked ++ p ∷ []) → IsPrefix looked more
joined_front looked more p (inl same) = same_front looked more same
joined_front looked more p (inr new) = (p ∷ [], new)

joined_low : (words : ℕ) (looked more : List ℕ) (p : ℕ) → p < words → (more ≡ looked) ⊎ (more ≡ looked ++ p ∷ [])
    → All (λ (place : ℕ). place < words) looked → All (λ (place : ℕ). place < words) more
joined_low words looked more p low (inl same) all = subst (All (λ (place : ℕ). place < words)) (sym same) all
joined_low words looked more p low (inr new) all = subst (All (λ (place : ℕ). place < words)) (sym new)
    (All-push (λ (place : ℕ). place < words) looked p all low)

joined_longer : (looked more : List ℕ) (p : ℕ) → (more ≡ looked) ⊎ (more ≡ looked ++ p ∷ []) → (q : ℕ) → stands_in looked q ≡ true
    → stands_in more q ≡ true
joined_longer looked more p (inl same) q is = ap (λ l. stands_in l q) same ∙ is
joined_longer looked more p (inr new) q is = among_stands more q (subst (λ l. Contains l q) (sym new)
    (Contains-append_left looked (p ∷ []) q (stands_among looked q is)))

module _ (P : NamedProgram) (s z : Seen) (frame : ℕ) (own : List Own) (looked : List ℕ) (p : ℕ) (over : IsOver P s frame own looked)
    (coherent : IsCoherent s) (later : IsCoherent z)
    (reads : OnlyReads s z) where
  -- a word was found free below, and noted
  pub missed_over : (more : List ℕ) (shared below : ℕ) (own' : List Own) → own' ≡ own → Misses shared p s z → p < s.words
      → is_own own p ≡ false
      → (more ≡ looked) ⊎ (more ≡ looked ++ p ∷ []) → Contains more p
      → IsOver P z frame own' more × OnlyReads (seen_over s frame own looked) (seen_over z frame own' more)
      × Misses below p (seen_over s frame own looked) (seen_over z frame own' more)
  missed_over more shared below own' same misses low other joined noted =
      let all = joined_low s.words looked more p low joined over.looked_low in
      let new = over_later P frame own s z looked more over coherent reads later (fit_missed P frame own s z shared p over.below misses)
      all (joined_longer looked more p joined) in
      subst (λ o. IsOver P z frame o more × OnlyReads (seen_over s frame own looked) (seen_over z frame o more)
      × Misses below p (seen_over s frame own looked) (seen_over z frame o more)) (sym same) (
        new,
        reads_below P frame own s z looked more over coherent new later reads (joined_front looked more p joined),
        misses_below P frame own s z looked more p shared below over coherent misses other joined noted,
      )

  -- a word was found set below
  pub found_over : (r : Ref) → Finds P p r s z → p < s.words → is_own own p ≡ false
      → IsOver P z frame own looked × OnlyReads (seen_over s frame own looked) (seen_over z frame own looked)
      × Finds P p r (seen_over s frame own looked) (seen_over z frame own looked)
  found_over r finds low other =
      let new = over_later P frame own s z looked looked over coherent reads later (fit_found P frame own s z p r over.below low finds)
      over.looked_low (λ q is. is) in (
        new,
        reads_below P frame own s z looked looked over coherent new later reads (same_front looked looked refl),
        finds_below P frame own s z looked p r over coherent new later finds other,
      )

-- What a look below makes of an overlay.
pub record Looked (P : NamedProgram) (s z : Seen) (frame : ℕ) (own own' : List Own) (looked more : List ℕ) (place below : ℕ) (r : Ref) :
    Type 0 where
  pub over : IsOver P z frame own' more
  pub reads : OnlyReads (seen_over s frame own looked) (seen_over z frame own' more)
  pub found : r ≢ Free → Finds P place r (seen_over s frame own looked) (seen_over z frame own' more)
  pub free : r ≡ Free → Misses below place (seen_over s frame own looked) (seen_over z frame own' more)

pub looked_over : (P : NamedProgram) (s z : Seen) (frame : ℕ) (own own' : List Own) (looked more : List ℕ) (p shared below : ℕ) (r : Ref)
    → IsOver P s frame own looked → IsCoherent s → IsCoherent z
    → OnlyReads s z → (r ≢ Free → Finds P p r s z) → (r ≡ Free → Misses shared p s z) → p < s.words → is_own own p ≡ false → own' ≡ own
    → (r ≢ Free → more ≡ looked) → (r ≡ Free → ((more ≡ looked) ⊎ (more ≡ looked ++ p ∷ [])) × Contains more p)
    → Looked P s z frame own own' looked more p below r
looked_over P s z frame own own' looked more p shared below r over coherent later reads finds misses low other same still joined =
    elim (free_or_set r) [
      | inl free ↦ (let answer = missed_over P s z frame own looked p over coherent later reads more shared below own' same (misses free) low
          other (joined free).0 (joined free).1 in
          record { over = answer.0; reads = answer.1; found = λ set. absurd (set free); free = λ _. answer.2 })
      | inr set ↦ (let answer = found_over P s z frame own looked p over coherent later reads r (finds set) low other in
          subst (λ o. Looked P s z frame own o looked more p below r) (sym same)
          (subst (λ l. Looked P s z frame own own looked l p below r) (sym (still set))
          (record { over = answer.0; reads = answer.1; found = λ _. answer.2; free = λ free. absurd (set free) })))
    ]

-- A word of a pair that is known to be written was seen too late: the pair is read below, and the word looked at again.
pub record WordRead (P : NamedProgram) (s z : Seen) (frame : ℕ) (own : List Own) (looked : List ℕ) (pair place : ℕ) (r : Ref) : Type 0 where
  pub over : IsOver P z frame own looked
  pub reads : OnlyReads (seen_over s frame own looked) (seen_over z frame own looked)
  pub known : Knows (seen_over z frame own looked) place r
  pub fits : CanHold P (s.words + frame) place r
  pub only : (p : ℕ) (q : Ref) → Knows (seen_over z frame own looked) p q → Knows (seen_over s frame own looked) p q ⊎ (p ≡ pair)
      ⊎ (p ≡ suc pair)

-- what is asked of the pair below
pub asked_below : (P : NamedProgram) (s : Seen) (frame : ℕ) (own : List Own) (looked : List ℕ) (pair place : ℕ)
    → IsOver P s frame own looked → IsCoherent s
    → IsKnownWritten (seen_over s frame own looked) pair → (place ≡ pair) ⊎ (place ≡ suc pair)
    → IsUnknown (seen_over s frame own looked) place
    → (suc pair < s.words) × IsKnownWritten s pair × (place < s.words)
asked_below P s frame own looked pair place over coherent written word unknown =
    let cell = number_below P s frame own looked pair place over coherent written word unknown in
    let low : suc pair < s.words = pair_below P s pair cell.0 over.below cell.1 in
    (low, inr cell, elim word [ inl first ↦ omega arith | inr second ↦ omega arith ])

pub word_read : (P : NamedProgram) (s mid z : Seen) (frame : ℕ) (own : List Own) (looked : List ℕ) (pair place shared : ℕ) (result : _)
    (r : Ref) → IsOver P s frame own looked
    → IsCoherent s → IsCoherent mid → IsCoherent z → OnlyReads s mid → ReadsNumber P pair result s mid → OnlyReads mid z
    → (r ≢ Free → Finds P place r mid z) → (r ≡ Free → Misses shared place mid z)
    → IsKnownWritten (seen_over s frame own looked) pair → (place ≡ pair) ⊎ (place ≡ suc pair)
    → IsUnknown (seen_over s frame own looked) place
    → WordRead P s z frame own looked pair place r
word_read P s mid z frame own looked pair place shared result r over coherent between later first number second found free written word
    unknown =
    let are = settings_of P s frame own looked over coherent in
    let asked = asked_below P s frame own looked pair place over coherent written word unknown in
    let low : place < s.words = asked.2 in
    let reads = reads_more s mid z first second in
    let finds : Finds P place r mid z = elim (free_or_set r) [ inl is ↦ absurd (not_free word (free is)) | inr set ↦ found set ] in
    let fit_mid = fit_read P s mid pair result over.below between asked.0 first.words number in
    let new = over_later P frame own s z looked looked over coherent reads later
    (fit_found P frame own mid z place r fit_mid (subst (λ n. place < n) (sym first.words) low) finds) over.looked_low (λ q is. is) in
    let then = settings_of P z frame own looked new later in
    let other = unknown_own s frame own looked are place unknown in record {
      over = new;
      reads = reads_below P frame own s z looked looked over coherent new later reads (same_front looked looked refl);
      known = knows_below z frame own looked then place r other ((finds.adds place r).1 (inr (refl, refl)));
      fits = can_hold_more P s.words (s.words + frame) place r (omega arith) (subst (λ n. CanHold P n place r) first.words finds.fits);
      only = λ p q knows. elim (knows_from z frame own looked then p q knows) [
        | inl has ↦ inl (knows_own s frame own looked are p q has)
        | inr below ↦ elim ((finds.adds p q).0 below.1) [
          | inl before ↦ elim (number.only p q before) [
            | inl old ↦ inl (knows_below s frame own looked are p q below.0 old)
            | inr one ↦ inr one
          ]
          | inr is ↦ inr (elim word [ inl e ↦ inl (is.0 ∙ e) | inr e ↦ inr (is.0 ∙ e) ])
        ]
      ];
    }
  where
    not_free : (place ≡ pair) ⊎ (place ≡ suc pair) → Misses shared place mid z → ⊥
    not_free (inl e) misses = misses.not_known number.high (subst (λ n. Knows mid n number.high) (sym e) number.high_known)
    not_free (inr e) misses = misses.not_known number.low (subst (λ n. Knows mid n number.low) (sym e) number.low_known)
