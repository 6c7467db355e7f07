-- What steps on words change for cells in general, and chains of cells.
use Rattle.std.proofs.Common.{ℕ, ℤ, suc, ◌≡◌, ◌≢◌, ◌+◌, ◌<◌, List, [], ◌∷◌, ◌++◌, false, refl, sym, ap, subst, ◌∙◌, inl, inr, arith, append_assoc, ◌*◌, ◌/◌}
use Rattle.std.proofs.Common.{◌%◌, ◌^◌, FitsSigned, w64}
use Rattle.std.specs.Int.{cast_signed, cast_unsigned}
use Rattle.std.proofs.lemmas.Int.{to_z-of_z}
use Rattle.std.specs.Prelude.{All}
use Rattle.std.proofs.lemmas.List.Elements.{All-append, All-nil, All-cons}
use Rattle.and_model.specs.Prefixes.{IsPrefix}
use Rattle.and_model.specs.Store.{Known, Missed, word}
use Rattle.and_model.specs.declared.reference.Ref.{Ref}
use Rattle.and_model.specs.declared.reference.Ref.TheVariants.{Free, Cell, Node, Number, Half}
use Rattle.and_cells.specs.Ranges.{NamedProgram, CanHold, IsInRange, IsInRangeOrHalf}
use Rattle.and_cells.specs.Numbers.{number_of, high_half, low_half}
use Rattle.and_cells.specs.Seen.{Seen, WritesNumber, ReadsNumber, IsAmong, Knows, IsKnownWritten, IsWrittenIfNumber, Gains, Adds, Finds, JoinsAtMost, Misses}
use Rattle.and_cells.specs.Seen.{Sets, Fills, OnlyReads, Keeps, LeadsTo, here, onward}

and_nothing : {X : Type 0} (xs : List X) → xs ≡ xs ++ []
and_nothing [] = refl
and_nothing (x ∷ xs) = ap (λ ys. x ∷ ys) (and_nothing xs)

same_knows : (old new : Seen) → new.told ≡ old.told → new.known ≡ old.known → (p : ℕ) (q : Ref) → Knows old p q → Knows new p q
same_knows old new told known p q knows = subst (λ t. IsAmong t new.known p q) (sym told) (subst (λ k. IsAmong old.told k p q) (sym known) knows)

pub reads_nothing : (s : Seen) → OnlyReads s s
reads_nothing s = record {
  keeps = λ p r known. known;
  learnt = [];
  gains = and_nothing s.known;
  none_own = All-nil (λ (k : Known). k.is_own ≡ false);
  words = refl;
  told = refl;
  missed = ([], and_nothing s.missed);
}

pub reads_more : (old mid new : Seen) → OnlyReads old mid → OnlyReads mid new → OnlyReads old new
reads_more old mid new a b = record {
  keeps = λ p r known. b.keeps p r (a.keeps p r known);
  learnt = a.learnt ++ b.learnt;
  gains = b.gains ∙ ap (λ ks. ks ++ b.learnt) a.gains ∙ append_assoc old.known a.learnt b.learnt;
  none_own = All-append (λ (k : Known). k.is_own ≡ false) a.learnt b.learnt a.none_own b.none_own;
  words = b.words ∙ a.words;
  told = b.told ∙ a.told;
  missed = (a.missed.0 ++ b.missed.0, b.missed.1 ∙ ap (λ ms. ms ++ b.missed.0) a.missed.1 ∙ append_assoc old.missed a.missed.0 b.missed.0);
}

pub finds_reads : (P : NamedProgram) (place : ℕ) (r : Ref) (old new : Seen) → Finds P place r old new → OnlyReads old new
finds_reads P place r old new f = by_list f.gains
  where
    k : Known
    k = record { setting = record { place = place; value = r }; is_own = false }

    with_list : (learnt : List Known) → new.known ≡ old.known ++ learnt → All (λ (k : Known). k.is_own ≡ false) learnt → OnlyReads old new
    with_list learnt gains none_own = record {
      keeps = λ p q known. (f.adds p q).1 (inl known);
      learnt = learnt;
      gains = gains;
      none_own = none_own;
      words = f.words;
      told = f.told;
      missed = ([], f.missed ∙ and_nothing old.missed);
    }

    by_list : Gains old.known new.known k → OnlyReads old new
    by_list (inl same) = with_list [] (same ∙ and_nothing old.known) (All-nil (λ (k : Known). k.is_own ≡ false))
    by_list (inr more) = with_list (k ∷ []) more (All-cons (λ (k : Known). k.is_own ≡ false) k [] refl (All-nil (λ (k : Known). k.is_own ≡ false)))

-- at most a place joined the list, which begins as it was
pub joins_prefix : (place : ℕ) (old new : List Missed) → JoinsAtMost place old new → IsPrefix old new
joins_prefix place old new (inl same) = ([], same ∙ and_nothing old)
joins_prefix place old new (inr more) = (word place ∷ [], more)

pub misses_reads : (shared place : ℕ) (old new : Seen) → Misses shared place old new → OnlyReads old new
misses_reads shared place old new m = record {
  keeps = same_knows old new m.told m.known;
  learnt = [];
  gains = m.known ∙ and_nothing old.known;
  none_own = All-nil (λ (k : Known). k.is_own ≡ false);
  words = m.words;
  told = m.told;
  missed = joins_prefix place old.missed new.missed m.missed;
}

pub leads_later : (old new : Seen) (from to : Ref) → ((p : ℕ) (q : Ref) → Knows old p q → Knows new p q) → LeadsTo old from to → LeadsTo new from to
leads_later old new from end keeps (here r) = here r
leads_later old new from end keeps (onward cell r t knows leads) = onward cell r t (keeps cell r knows) (leads_later old new r t keeps leads)

pub leads_on : (s : Seen) (from : Ref) (cell : ℕ) (r : Ref) → LeadsTo s from (Cell cell) → Knows s cell r → LeadsTo s from r
leads_on s from cell r leads knows = along from (Cell cell) leads refl
  where
    along : (a b : Ref) → LeadsTo s a b → b ≡ Cell cell → LeadsTo s a r
    along a b (here x) is = subst (λ y. LeadsTo s y r) (sym is) (onward cell r r knows (here r))
    along a b (onward c x t known rest) is = onward c x r known (along x t rest is)

pub written_later : (old new : Seen) (r : Ref) → ((p : ℕ) (q : Ref) → Knows old p q → Knows new p q) → IsWrittenIfNumber old r → IsWrittenIfNumber new r
written_later old new r keeps written pair is = elim (written pair is) as (λ _. IsKnownWritten new pair) [
  | inl both ↦ inl ((both.0.0, keeps pair both.0.0 both.0.1), (both.1.0, keeps (suc pair) both.1.0 both.1.1))
  | inr cell ↦ inr (cell.0, keeps cell.0 (Number pair) cell.1)
]

-- a number to which a cell is known to be set is written
pub written_since_known : (s : Seen) (cell : ℕ) (r : Ref) → Knows s cell r → IsWrittenIfNumber s r
written_since_known s cell r knows pair is = inr (cell, subst (λ q. Knows s cell q) is knows)

-- what a cell in range may hold is in range, but for a half
pub held_in_range : (P : NamedProgram) (words cell : ℕ) (r : Ref) → cell < words → r ≢ Free → CanHold P words cell r → IsInRangeOrHalf P words r
held_in_range P words cell Free below is_set fits = absurd (is_set refl)
held_in_range P words cell (Cell other) below is_set fits = omega arith
held_in_range P words cell (Node node base) below is_set fits = fits
held_in_range P words cell (Number pair) below is_set fits = fits
held_in_range P words cell (Half bits) below is_set fits = tt

pub or_half : (P : NamedProgram) (words : ℕ) (r : Ref) → IsInRange P words r → IsInRangeOrHalf P words r
or_half P words Free fits = fits
or_half P words (Cell cell) fits = fits
or_half P words (Node node base) fits = fits
or_half P words (Number pair) fits = fits
or_half P words (Half bits) fits = tt

fills_adds : (P : NamedProgram) (place : ℕ) (half r : Ref) (old new : Seen) → Fills P place half r old new → Adds place r old new
fills_adds P place half r old new (inl sets) = sets.0.adds
fills_adds P place half r old new (inr finds) = finds.adds

fills_words : (P : NamedProgram) (place : ℕ) (half r : Ref) (old new : Seen) → Fills P place half r old new → new.words ≡ old.words
fills_words P place half r old new (inl sets) = sets.0.words
fills_words P place half r old new (inr finds) = finds.words

-- the halves of a number hold it
pub number_of_halves : (value : ℤ) → FitsSigned w64 value → number_of (high_half value) (low_half value) ≡ value
number_of_halves value fits =
    let u : ℕ = cast_unsigned w64 value in
    let whole : 2 ^ 32 * (u / 2 ^ 32) + u % 2 ^ 32 ≡ u = omega arith in
    ap (cast_signed w64) whole ∙ to_z-of_z w64 value fits

-- a number is written by two steps, each on one word
pub writes_number : (P : NamedProgram) (pair : ℕ) (value result : ℤ) (high low : Ref) (old between new : Seen)
    → Fills P pair (high_half value) high old between → Fills P (suc pair) (low_half value) low between new
    → result ≡ number_of high low → FitsSigned w64 value → WritesNumber P pair value result old new
writes_number P pair value result high low old between new first second holds fits =
    let one = fills_adds P pair (high_half value) high old between first in
    let two = fills_adds P (suc pair) (low_half value) low between new second in record {
      high = high;
      low = low;
      between = between;
      first = first;
      second = second;
      holds = holds;
      as_given = λ h l. holds ∙ ap (λ x. number_of x low) h ∙ ap (number_of (high_half value)) l ∙ number_of_halves value fits;
      words = fills_words P (suc pair) (low_half value) low between new second ∙ fills_words P pair (high_half value) high old between first;
      knows = λ p q. (
        (λ k. elim ((two p q).0 k) [
          | inl before ↦ elim ((one p q).0 before) [ inl known ↦ inl known | inr is ↦ inr (inl is) ]
          | inr is ↦ inr (inr is)
        ]),
        elim [
          | inl known ↦ (two p q).1 (inl ((one p q).1 (inl known)))
          | inr these ↦ elim these [ inl is ↦ (two p q).1 (inl ((one p q).1 (inr is))) | inr is ↦ (two p q).1 (inr is) ]
        ],
      );
    }

-- the same, with the second place and both halves under names of their own
pub writes_number_by : (P : NamedProgram) (pair next : ℕ) (value result : ℤ) (one two high low : Ref) (old between new : Seen)
    → next ≡ suc pair → one ≡ high_half value → two ≡ low_half value → Fills P pair one high old between → Fills P next two low between new
    → result ≡ number_of high low → FitsSigned w64 value → WritesNumber P pair value result old new
writes_number_by P pair next value result one two high low old between new is_next is_high is_low first second holds fits =
    writes_number P pair value result high low old between new
    (subst (λ h. Fills P pair h high old between) is_high first)
    (subst (λ h. Fills P (suc pair) h low between new) is_low (subst (λ p. Fills P p two low between new) is_next second))
    holds fits

keeps_by : (old new : Seen) → ((p : ℕ) (q : Ref) → Knows old p q → Knows new p q) → (k : Known) → Gains old.known new.known k → new.words ≡ old.words
    → IsPrefix old.missed new.missed → Keeps old new
keeps_by old new knows k gains words missed = record {
  knows = knows;
  known = elim gains [ inl same ↦ ([], same ∙ and_nothing old.known) | inr more ↦ (k ∷ [], more) ];
  missed = missed;
  words = words;
}

pub sets_keeps : (place : ℕ) (r : Ref) (old new : Seen) → Sets place r old new → Keeps old new
sets_keeps place r old new s = keeps_by old new (λ p q known. (s.adds p q).1 (inl known)) _ s.gains s.words (joins_prefix place old.missed new.missed s.missed)

pub finds_keeps : (P : NamedProgram) (place : ℕ) (r : Ref) (old new : Seen) → Finds P place r old new → Keeps old new
finds_keeps P place r old new f = keeps_by old new (λ p q known. (f.adds p q).1 (inl known)) _ f.gains f.words ([], f.missed ∙ and_nothing old.missed)

pub keeps_more : (old mid new : Seen) → Keeps old mid → Keeps mid new → Keeps old new
keeps_more old mid new a b = record {
  knows = λ p q known. b.knows p q (a.knows p q known);
  known = (a.known.0 ++ b.known.0, b.known.1 ∙ ap (λ ks. ks ++ b.known.0) a.known.1 ∙ append_assoc old.known a.known.0 b.known.0);
  missed = (a.missed.0 ++ b.missed.0, b.missed.1 ∙ ap (λ ms. ms ++ b.missed.0) a.missed.1 ∙ append_assoc old.missed a.missed.0 b.missed.0);
  words = b.words ∙ a.words;
}

pub reads_keeps : (old new : Seen) → OnlyReads old new → Keeps old new
reads_keeps old new r = record { knows = r.keeps; known = (r.learnt, r.gains); missed = r.missed; words = r.words }

fills_keeps : (P : NamedProgram) (place : ℕ) (half r : Ref) (old new : Seen) → Fills P place half r old new → Keeps old new
fills_keeps P place half r old new (inl sets) = sets_keeps place r old new sets.0
fills_keeps P place half r old new (inr finds) = finds_keeps P place r old new finds

pub writes_keeps : (P : NamedProgram) (pair : ℕ) (value result : ℤ) (old new : Seen) → WritesNumber P pair value result old new → Keeps old new
writes_keeps P pair value result old new w =
    keeps_more old w.between new (fills_keeps P pair (high_half value) w.high old w.between w.first)
    (fills_keeps P (suc pair) (low_half value) w.low w.between new w.second)

-- a pair that was written is known to be
pub writes_known : (P : NamedProgram) (pair : ℕ) (value result : ℤ) (old new : Seen) → WritesNumber P pair value result old new → IsKnownWritten new pair
writes_known P pair value result old new w =
    inl ((w.high, (w.knows pair w.high).1 (inr (inl (refl, refl)))), (w.low, (w.knows (suc pair) w.low).1 (inr (inr (refl, refl)))))

-- two words that were found one after the other are those of a pair that was read
pub reads_number : (P : NamedProgram) (pair next : ℕ) (result : ℤ) (high low : Ref) (old between new : Seen)
    → next ≡ suc pair → Finds P pair high old between → Finds P next low between new → result ≡ number_of high low → ReadsNumber P pair result old new
reads_number P pair next result high low old between new is_next first second holds = record {
  high = high;
  low = low;
  high_known = (second.adds pair high).1 (inl ((first.adds pair high).1 (inr (refl, refl))));
  low_known = (second.adds (suc pair) low).1 (inr (sym is_next, refl));
  fits = (first.fits, subst (λ p. CanHold P old.words p low) is_next (subst (λ n. CanHold P n next low) first.words second.fits));
  holds = holds;
  only = λ p q knows. elim ((second.adds p q).0 knows) [
    | inl before ↦ elim ((first.adds p q).0 before) [ inl known ↦ inl known | inr is ↦ inr (inl is.0) ]
    | inr is ↦ inr (inr (is.0 ∙ is_next))
  ];
}
