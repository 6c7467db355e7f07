-- The whole row with the words of a part that was settled: at the places of the part the words of the part, moved, and
-- at the others what there was.
use Rattle.std.proofs.Common.{ℕ, zero, suc, ◌+◌, ◌≡◌, ◌<◌, ◌≤◌, ◌⊎◌, List, length, refl, sym, ap, ◌∙◌, inl, inr, arith}
use Rattle.std.proofs.lemmas.Bool.{cases_lt, cases_eq}
use Rattle.std.proofs.lemmas.List.{get_or_past}
use Rattle.and_model.specs.declared.reference.Ref.{Ref}
use Rattle.and_model.specs.declared.reference.Ref.TheVariants.{Free}
use Rattle.and_cells.specs.Ranges.{NamedProgram}
use Rattle.and_cells.specs.Seen.{word_at}
use Rattle.and_moved_laws.specs.KeptFrames.{listed}
use Rattle.and_moved_laws.specs.Parts.{moved, IsTogether, IsPartOf}
use Rattle.and_moved_laws.proofs.Moving.{no_lower, one_origin, within_whole, within_part}

-- ---- Where a place comes from

-- A place of the whole row is one of the part's, or none.
abbrev pub Origin : (at : ℕ → ℕ) → (p : ℕ) → Type 0
Origin at p = ((c : ℕ) × (at c ≡ p)) ⊎ ((c : ℕ) → at c ≡ p → ⊥)

origin_below : (at : ℕ → ℕ) (p n : ℕ) → ((c : ℕ) × (at c ≡ p)) ⊎ ((c : ℕ) → c < n → at c ≡ p → ⊥)
origin_below at p zero = inr (λ c low e. absurd (omega arith))
origin_below at p (suc n) = elim (cases_eq (at n) p) [
  | inl e ↦ inl (n, e)
  | inr other ↦ elim (origin_below at p n) [
    | inl found ↦ inl found
    | inr nowhere ↦ inr (λ c low e. elim (cases_eq c n) [
      | inl same ↦ other (ap at (sym same) ∙ e)
      | inr less ↦ nowhere c (omega (arith, less)) e
    ])
  ]
]

pub origin : (at : ℕ → ℕ) → ((p q : ℕ) → p < q → at p < at q) → (p : ℕ) → Origin at p
origin at rises p = elim (origin_below at p (suc p)) [
  | inl found ↦ inl found
  | inr nowhere ↦ inr (λ c e. nowhere c (let l = no_lower at rises c in omega arith) e)
]

-- ---- Rows by their words

pub listed_length : (n : ℕ) (word : ℕ → Ref) → length (listed n word) ≡ n
listed_length zero word = refl
listed_length (suc n) word = ap suc (listed_length n (λ (k : ℕ). word (suc k)))

pub listed_word : (n : ℕ) (word : ℕ → Ref) (p : ℕ) → p < n → word_at (listed n word) p ≡ word p
listed_word zero word p low = absurd (omega arith)
listed_word (suc n) word zero low = refl
listed_word (suc n) word (suc p) low = listed_word n (λ (k : ℕ). word (suc k)) p (omega arith)

-- ---- The words of both

abbrev word_from : (at : ℕ → ℕ) (new whole : List Ref) (p : ℕ) → Origin at p → Ref
word_from at new whole p (inl found) = moved at (word_at new found.0)
word_from at new whole p (inr nowhere) = word_at whole p

module _ (P : NamedProgram) (at : ℕ → ℕ) (part whole : List Ref) (m : IsPartOf P at part whole) (new : List Ref)
    (long : length new ≡ length part) where
  unfoldable pub filled : List Ref
  filled = listed (length whole) (λ (p : ℕ). word_from at new whole p (origin at m.rises p))

  pub filled_length : length filled ≡ length whole
  unfolding filled
  filled_length = listed_length (length whole) (λ (p : ℕ). word_from at new whole p (origin at m.rises p))

  filled_word : (p : ℕ) → p < length whole → word_at filled p ≡ word_from at new whole p (origin at m.rises p)
  unfolding filled
  filled_word p low = listed_word (length whole) (λ (p : ℕ). word_from at new whole p (origin at m.rises p)) p low

  from_here : (c : ℕ) (o : Origin at (at c)) → word_from at new whole (at c) o ≡ moved at (word_at new c)
  from_here c (inl found) = ap (λ (x : ℕ). moved at (word_at new x)) (one_origin at m.rises found.0 c found.1)
  from_here c (inr nowhere) = absurd (nowhere c refl)

  from_nowhere : (p : ℕ) → ((c : ℕ) → at c ≡ p → ⊥) → (o : Origin at p) → word_from at new whole p o ≡ word_at whole p
  from_nowhere p nowhere (inl found) = absurd (nowhere found.0 found.1)
  from_nowhere p nowhere (inr same) = refl

  -- At the part's places are its words,
  pub filled_here : (c : ℕ) → word_at filled (at c) ≡ moved at (word_at new c)
  filled_here c = elim (cases_lt c (length part)) [
    | inl low ↦ filled_word (at c) (within_whole P at part whole m c low) ∙ from_here c (origin at m.rises (at c))
    | inr past ↦
        let free : word_at new c ≡ Free = get_or_past new c Free (omega (arith, past, long)) in
        let beyond : length filled ≤ at c = (
        let l = filled_length in
        elim (cases_lt (at c) (length whole)) [
          | inl less ↦ absurd (let w = within_part P at part whole m c less in omega arith)
          | inr more ↦ omega arith
        ]) in
        get_or_past filled (at c) Free beyond ∙ ap (moved at) (sym free)
  ]

  -- and at the others what there was.
  pub filled_elsewhere : (p : ℕ) → ((c : ℕ) → at c ≡ p → ⊥) → word_at filled p ≡ word_at whole p
  filled_elsewhere p nowhere = elim (cases_lt p (length whole)) [
    | inl low ↦ filled_word p low ∙ from_nowhere p nowhere (origin at m.rises p)
    | inr past ↦ get_or_past filled p Free (omega (arith, past, filled_length)) ∙ sym (get_or_past whole p Free past)
  ]

  -- So the part, with its new words, is part of it.
  pub part_filled : ((place : ℕ) → IsTogether P at (word_at new place)) → IsPartOf P at new filled
  part_filled together = record {
    rises = m.rises;
    beyond = λ k.
        let same : at (length new + k) ≡ at (length part + k) = ap (λ (n : ℕ). at (n + k)) long in
        let e = m.beyond k in
        let l = filled_length in
        omega arith;
    words = filled_here;
    together = together;
  }
