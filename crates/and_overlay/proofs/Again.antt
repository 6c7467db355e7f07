-- What was tried over cells goes the same way over a later row.
use Rattle.std.proofs.Common.{ℕ, ◌≡◌, ◌≢◌, ◌+◌, ◌<◌, ◌≤◌, ◌⊎◌, inl, inr, true, refl, List, ◌++◌, map, length, replicate, sym, ap, subst, ◌∙◌}
use Rattle.std.specs.Prelude.{All, Contains}
use Rattle.std.proofs.lemmas.Bool.{cases_lt}
use Rattle.std.proofs.lemmas.List.{length-append, length-replicate}
use Rattle.std.proofs.lemmas.List.Elements.{All-contains, Contains-append_left}
use Rattle.and_model.specs.Prefixes.{IsPrefix}
use Rattle.and_model.specs.Store.{Missed, word}
use Rattle.and_model.specs.declared.reference.Ref.{Ref}
use Rattle.and_model.specs.declared.reference.Ref.TheVariants.{Free}
use Rattle.and_cells.specs.Ranges.{NamedProgram}
use Rattle.and_cells.specs.Seen.{Seen, Finds, IsAmong, IsCoherent, Misses, OnlyReads, word_at}
use Rattle.and_cells.proofs.Among.{among_map}
use Rattle.and_cells.proofs.Keeping.{free_or_set, word_in_front, nothing_there}
use Rattle.and_overlay.specs.Overlaid.{Own, stands_in, row_over, seen_over, GoesOn, IsOver, WasTold}
use Rattle.and_overlay.proofs.Owned.{row_own, row_other, stands_among}
use Rattle.and_overlay.proofs.Knowing.{AreSettings, settings_of, knows_from}
use Rattle.and_overlay.proofs.Setting.{noted_place, unknown_own}

pub goes_the_same_way : (P : NamedProgram) (s : Seen) (frame room : ℕ) (own : List Own) (looked : List ℕ) (later : List Ref)
    → IsOver P s frame own looked → IsCoherent s → GoesOn s looked later → length later + room ≡ s.words + frame
    → (place : ℕ) (r : Ref) → WasTold (seen_over s frame own looked) (length later) place r
    → word_at (row_over own (later ++ replicate room Free)) place ≡ r
goes_the_same_way P s frame room own looked later over coherent on total place r told = elim told [
  | inl knows ↦ elim (knows_from s frame own looked are place r knows) [
    | inl has ↦ row_own own base place r over.apart low has
    | inr below ↦ row_other own base place below.0 ∙ word_in_front later room place ∙ (on.set place r below.1).0
  ]
  | inr free ↦ row_other own base place (unknown_own s frame own looked are place free.1) ∙ word_in_front later room place
      ∙ free_later free.2 (cases_lt place (length later)) ∙ sym free.0
]
  where
    are : AreSettings s frame own
    are = settings_of P s frame own looked over coherent

    base : List Ref
    base = later ++ replicate room Free

    long : length base ≡ s.words + frame
    long = length-append later (replicate room Free) ∙ ap (λ n. length later + n) (length-replicate room Free) ∙ total

    low : All (λ (o : Own). o.place < length base) own
    low = subst (λ n. All (λ (o : Own). o.place < n) own) (sym long) over.low

    free_later : (place < length later → Contains (map word looked) (word place)) → (place < length later) ⊎ (length later ≤ place)
        → word_at later place ≡ Free
    free_later noted (inl below) = on.free place (noted_place looked place (noted below))
    free_later noted (inr behind) = nothing_there later place behind

-- what was set is free in the later row
pub set_again : (P : NamedProgram) (s : Seen) (frame room : ℕ) (own : List Own) (looked : List ℕ) (later : List Ref)
    → IsOver P s frame own looked → GoesOn s looked later → (o : Own) → Contains own o → (o.place < length later → o.place < s.words)
    → word_at (later ++ replicate room Free) o.place ≡ Free
set_again P s frame room own looked later over on o among within =
    word_in_front later room o.place ∙ elim (cases_lt o.place (length later)) [
      | inl below ↦ on.free o.place (stands_among looked o.place
          (All-contains (λ (o : Own). o.place < s.words → stands_in looked o.place ≡ true) own o over.noted among (within below)))
      | inr behind ↦ nothing_there later o.place behind
    ]

-- what a look tells, by what its contract says of it
pub told_by_look : (P : NamedProgram) (old new : Seen) (shared behind place : ℕ) (r : Ref) → (place < behind → place < shared)
    → (r ≢ Free → Finds P place r old new) → (r ≡ Free → Misses shared place old new) → WasTold new behind place r
told_by_look P old new shared behind place r within found free = elim (free_or_set r) [
  | inl is ↦ (let misses = free is in inr (
    is,
    λ q knows. misses.not_known q
        (subst (λ told. IsAmong told old.known place q) misses.told (subst (λ known. IsAmong new.told known place q) misses.known knows)),
    λ below. misses.noted (within below),
  ))
  | inr set ↦ inl (((found set).adds place r).1 (inr (refl, refl)))
]

-- what goes on from a moment goes on from each one before it
pub goes_on_earlier : (s z : Seen) (looked more : List ℕ) (later : List Ref) → OnlyReads s z → IsPrefix (map word looked) (map word more)
    → GoesOn z more later → GoesOn s looked later
goes_on_earlier s z looked more later reads grows on = record {
  longer = subst (λ n. n ≤ length later) reads.words on.longer;
  set = λ place r knows. on.set place r (reads.keeps place r knows);
  free = λ place has. on.free place (noted_place more place
      (subst (λ (missed : List Missed). Contains missed (word place)) (sym grows.1)
      (Contains-append_left (map word looked) grows.0 (word place) (among_map word place looked has))));
}
