-- What an overlay knows, and that it is coherent.
use Rattle.std.proofs.Common.{ℕ, ◌≡◌, ◌≢◌, ◌+◌, ◌<◌, ◌⊎◌, inl, inr, true, false, List, [], ◌∷◌, ◌++◌, map, length, replicate, refl, sym, ap, subst, ◌∙◌, Some}
use Rattle.std.proofs.Common.{None}
use Rattle.std.specs.Prelude.{All, Contains, Option, IfSome}
use Rattle.std.specs.Option.{option_map}
use Rattle.std.proofs.lemmas.List.{length-append, length-replicate}
use Rattle.std.proofs.lemmas.List.Elements.{All-contains, Contains-get_or}
use Rattle.and_model.specs.Store.{Setting, Known, AreDistinct}
use Rattle.and_model.specs.declared.reference.Ref.{Ref}
use Rattle.and_model.specs.declared.reference.Ref.TheVariants.{Free}
use Rattle.and_cells.specs.Ranges.{NamedProgram}
use Rattle.and_cells.specs.Seen.{Seen, Knows, IsAmong, IsSetTo, IsCoherent}
use Rattle.and_cells.proofs.Among.{among_cases, among_none, among_map, map_among}
use Rattle.and_overlay.proofs.Sifting.{distinct_first, distinct_rest}
use Rattle.and_cells.proofs.Keeping.{word_in_front}
use Rattle.and_overlay.specs.Overlaid.{Own, is_own, known_over, row_over, seen_over, AreLate, IsOver}
use Rattle.and_overlay.proofs.Owned.{own_setting, settings, Has, own_or_not, own_has, length_row_over, row_other, row_own, known_from, known_own, known_below}
use Rattle.and_overlay.proofs.Owned.{known_once}

-- a row that is told has all its words
whole_row : (s : Seen) → IsCoherent s → (row : List Ref) → s.told ≡ Some row → length row ≡ s.words
whole_row s coherent row told = subst (λ t. IfSome t (λ row. length row ≡ s.words)) told coherent.whole

-- what is listed as known is known
pub listed_knows : (s : Seen) → IsCoherent s → (p : ℕ) (r : Ref) → Contains (settings s.known) (record { place = p; value = r })
    → Knows s p r
listed_knows s coherent p r has = by_told s.told refl
  where
    by_told : (told : Option (List Ref)) → s.told ≡ told → IsAmong told s.known p r
    by_told None is = has
    by_told (Some row) is =
        let (k, among, same) = map_among (λ (k : Known). k.setting) (record { place = p; value = r }) s.known has in
        let all : All (λ (k : Known). IsSetTo row k.setting.place k.setting.value) s.known =
        subst (λ t. IfSome t (λ row. All (λ (k : Known). IsSetTo row k.setting.place k.setting.value) s.known)) is coherent.in_row in
        subst (λ (t : Setting). IsSetTo row t.place t.value) same (All-contains
        (λ (k : Known). IsSetTo row k.setting.place k.setting.value) s.known k all among)

-- What is common to an overlay's settings, without what is said of numbers and of the looks.
pub record AreSettings (s : Seen) (frame : ℕ) (own : List Own) : Type 0 where
  pub apart : AreDistinct (map (λ (o : Own). o.place) own)
  pub set : All (λ (o : Own). o.value ≢ Free) own
  pub low : All (λ (o : Own). o.place < s.words + frame) own
  pub late : AreLate own s.known
  pub coherent : IsCoherent s

pub settings_of : (P : NamedProgram) (s : Seen) (frame : ℕ) (own : List Own) (looked : List ℕ) → IsOver P s frame own looked
    → IsCoherent s → AreSettings s frame own
settings_of P s frame own looked over coherent = record {
  apart = over.apart;
  set = over.set;
  low = over.low;
  late = over.late;
  coherent = coherent;
}

module _ (s : Seen) (frame : ℕ) (own : List Own) (looked : List ℕ) (are : AreSettings s frame own) where
  long_base : (row : List Ref) → s.told ≡ Some row → length (row ++ replicate frame Free) ≡ s.words + frame
  long_base row told = length-append row (replicate frame Free) ∙ ap (λ n. n + length (replicate frame Free))
      (whole_row s are.coherent row told) ∙ ap (λ n. s.words + n) (length-replicate frame Free)

  low_base : (row : List Ref) → s.told ≡ Some row → All (λ (o : Own). o.place < length (row ++ replicate frame Free)) own
  low_base row told = subst (λ n. All (λ (o : Own). o.place < n) own) (sym (long_base row told)) are.low

  -- what was set is no `Free`
  pub has_set : (p : ℕ) (r : Ref) → Has own p r → r ≢ Free
  has_set p r has =
      let (o, among, same) = map_among own_setting (record { place = p; value = r }) own has in
      subst (λ (t : Setting). t.value ≢ Free) same (All-contains (λ (o : Own). o.value ≢ Free) own o are.set among)

  -- What an overlay knows was set in it, or is known below and no place of its own,
  pub knows_from : (p : ℕ) (r : Ref) → Knows (seen_over s frame own looked) p r → Has own p r ⊎ ((is_own own p ≡ false) × Knows s p r)
  knows_from p r knows = by_told s.told refl knows
    where
      by_row : (row : List Ref) → s.told ≡ Some row → IsSetTo (row_over own (row ++ replicate frame Free)) p r → (is_own own p ≡ true)
          ⊎ (is_own own p ≡ false)
          → Has own p r ⊎ ((is_own own p ≡ false) × IsSetTo row p r)
      by_row row told is (inl mine) =
          let (q, has) = own_has own p mine in
          let same : q ≡ r = sym (row_own own (row ++ replicate frame Free) p q are.apart (low_base row told) has) ∙ is.0 in
          inl (subst (Has own p) same has)
      by_row row told is (inr other) = inr (
        other,
        (
          sym (row_other own (row ++ replicate frame Free) p other ∙ word_in_front row frame p)
              ∙ is.0,
          is.1,
        ),
      )

      by_told : (told : Option (List Ref)) → s.told ≡ told → IsAmong (option_map (λ row. row_over own (row ++ replicate frame Free)) told)
          (known_over own s.known) p r
          → Has own p r ⊎ ((is_own own p ≡ false) × IsAmong told s.known p r)
      by_told None is known = known_from own s.known (record { place = p; value = r }) are.late known
      by_told (Some row) is known = by_row row is known (own_or_not own p)

  -- what was set is known,
  pub knows_own : (p : ℕ) (r : Ref) → Has own p r → Knows (seen_over s frame own looked) p r
  knows_own p r has = by_told s.told refl
    where
      by_told : (told : Option (List Ref)) → s.told ≡ told → IsAmong (option_map (λ row. row_over own (row ++ replicate frame Free)) told)
          (known_over own s.known) p r
      by_told None is = known_own own s.known (record { place = p; value = r }) has
      by_told (Some row) is = (row_own own (row ++ replicate frame Free) p r are.apart (low_base row is) has, has_set p r has)

  -- and so is what is known below of other places.
  pub knows_below : (p : ℕ) (r : Ref) → is_own own p ≡ false → Knows s p r → Knows (seen_over s frame own looked) p r
  knows_below p r other knows = by_told s.told refl knows
    where
      by_told : (told : Option (List Ref)) → s.told ≡ told → IsAmong told s.known p r
          → IsAmong (option_map (λ row. row_over own (row ++ replicate frame Free)) told) (known_over own s.known) p r
      by_told None is known = known_below own s.known (record { place = p; value = r }) are.late other known
      by_told (Some row) is known = (row_other own (row ++ replicate frame Free) p other ∙ word_in_front row frame p ∙ known.0, known.1)

  -- No place was set twice,
  pub has_one : (p : ℕ) (r q : Ref) → Has own p r → Has own p q → r ≡ q
  has_one p r q one other = one_value own are.apart p r q one other
    where
      one_value : (own : List Own) → AreDistinct (map (λ (o : Own). o.place) own) → (p : ℕ) (r q : Ref) → Has own p r → Has own p q → r ≡ q
      one_value [] apart p r q one other = absurd (among_none _ one)
      one_value (o ∷ own) apart p r q one other =
          elim (among_cases (own_setting o) (record { place = p; value = r }) (map own_setting own) one) [
            | inl first ↦ elim (among_cases (own_setting o) (record { place = p; value = q }) (map own_setting own) other) [
              | inl also ↦ ap (λ (t : Setting). t.value) first ∙ sym (ap (λ (t : Setting). t.value) also)
              | inr rest ↦ absurd (newest o own apart p q rest (sym (ap (λ (t : Setting). t.place) first)))
            ]
            | inr rest ↦ elim (among_cases (own_setting o) (record { place = p; value = q }) (map own_setting own) other) [
              | inl first ↦ absurd (newest o own apart p r rest (sym (ap (λ (t : Setting). t.place) first)))
              | inr also ↦ one_value own (distinct_rest o.place (map (λ (o : Own). o.place) own) apart) p r q rest also
            ]
          ]
        where
          newest : (o : Own) (own : List Own) → AreDistinct (o.place ∷ map (λ (o : Own). o.place) own) → (p : ℕ) (r : Ref) → Has own p r
              → o.place ≢ p
          newest o own apart p r has =
              let (old, among, same) = map_among own_setting (record { place = p; value = r }) own has in
              distinct_first o.place (map (λ (o : Own). o.place) own) apart p
              (subst (Contains (map (λ (o : Own). o.place) own)) (ap (λ (t : Setting). t.place) same)
              (among_map (λ (o : Own). o.place) old own among))

  -- and cells over coherent ones are so too.
  pub coherent_over : IsCoherent (seen_over s frame own looked)
  coherent_over = record {
    once = known_once own s.known are.apart are.late are.coherent.once;
    whole = whole s.told refl;
    in_row = in_row s.told refl;
  }
    where
      whole : (told : Option (List Ref)) → s.told ≡ told → IfSome (option_map (λ row. row_over own (row ++ replicate frame Free)) told)
          (λ row. length row ≡ s.words + frame)
      whole None is = tt
      whole (Some row) is = length_row_over own (row ++ replicate frame Free) ∙ long_base row is

      so : (row : List Ref) → s.told ≡ Some row → (k : Known) → Contains (known_over own s.known) k
          → IsSetTo (row_over own (row ++ replicate frame Free)) k.setting.place k.setting.value
      so row is k among = elim (known_from own s.known k.setting are.late
          (among_map (λ (k : Known). k.setting) k (known_over own s.known) among)) [
            | inl set ↦ (
              row_own own (row ++ replicate frame Free) k.setting.place k.setting.value are.apart (low_base row is) set,
              has_set
                  k.setting.place k.setting.value set,
            )
            | inr below ↦ (let known : IsSetTo row k.setting.place k.setting.value =
                subst (λ t. IsAmong t s.known k.setting.place k.setting.value) is
                (listed_knows s are.coherent k.setting.place k.setting.value below.1) in (
                  row_other own (row ++ replicate frame Free) k.setting.place below.0 ∙ word_in_front row frame k.setting.place
                      ∙ known.0,
                  known.1,
                ))
          ]

      in_row : (told : Option (List Ref)) → s.told ≡ told
          → IfSome (option_map (λ row. row_over own (row ++ replicate frame Free)) told)
          (λ row. All (λ (k : Known). IsSetTo row k.setting.place k.setting.value) (known_over own s.known))
      in_row None is = tt
      in_row (Some row) is = λ i d low. so row is _ (Contains-get_or (known_over own s.known) i d low)
