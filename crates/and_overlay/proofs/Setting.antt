-- A setting that is kept over other cells.
use Rattle.std.proofs.Common.{ℕ, suc, ◌≡◌, ◌≢◌, ◌+◌, ◌<◌, ◌⊎◌, inl, inr, true, false, List, [], ◌∷◌, ◌++◌, map, length, replicate, refl, sym, ap, subst, ◌∙◌}
use Rattle.std.proofs.Common.{arith, Some, None, true≢false, ◌↔◌}
use Rattle.std.specs.Prelude.{All, Contains, Option, IfSome, slice_set}
use Rattle.std.specs.Option.{option_map}
use Rattle.std.proofs.lemmas.Bool.{cases_eq}
use Rattle.std.proofs.lemmas.List.{take_all}
use Rattle.std.proofs.lemmas.List.Elements.{All-nil, All-cons}
use Rattle.and_model.specs.Store.{Setting, AreDistinct, word}
use Rattle.and_model.specs.declared.reference.Ref.{Ref}
use Rattle.and_model.specs.declared.reference.Ref.TheVariants.{Free, Number}
use Rattle.and_cells.specs.Ranges.{NamedProgram, CanHold}
use Rattle.and_cells.specs.Seen.{Seen, Knows, IsAmong, IsCoherent, IsKnownWritten, Misses, Sets, word_at}
use Rattle.and_cells.proofs.Among.{among_first, among_more, among_cases, among_none, among_map, map_among}
use Rattle.and_overlay.proofs.Sifting.{distinct_cons}
use Rattle.and_overlay.specs.Overlaid.{Own, is_own, stands_in, row_over, seen_over, IsUnknown, IsKnownFit, IsOver, known_over}
use Rattle.and_overlay.proofs.Owned.{own_setting, Has, own_or_not, own_there, has_own, own_has, among_stands}
use Rattle.and_overlay.proofs.Knowing.{AreSettings, settings_of, listed_knows, knows_from, knows_own, knows_below, coherent_over}
use Rattle.and_overlay.proofs.Stepping.{known_new}
use Rattle.and_cells.proofs.Keeping.{word_in_front}

-- an overlay in which nothing is set
pub over_begun : (P : NamedProgram) (s : Seen) (frame : ℕ) (looked : List ℕ) → IsCoherent s → IsKnownFit P s → All (λ (place : ℕ). place < s.words) looked
    → IsOver P s frame [] looked
over_begun P s frame looked coherent fit low =
    let apart : AreDistinct (map (λ (o : Own). o.place) []) = λ i j d before within. absurd (omega arith) in
    let set = All-nil (λ (o : Own). o.value ≢ Free) in
    let low_set = All-nil (λ (o : Own). o.place < s.words + frame) in record {
      apart = apart;
      set = set;
      low = low_set;
      fits = All-nil (λ (o : Own). CanHold P (s.words + frame) o.place o.value);
      late = tt;
      below = fit;
      written = λ o among pair place is which unknown none. absurd (among_none o among);
      looked_low = low;
      noted = All-nil (λ (o : Own). o.place < s.words → stands_in looked o.place ≡ true);
      coherent = coherent_over s frame [] looked (record { apart = apart; set = set; low = low_set; late = tt; coherent = coherent });
    }

-- where a place is not known over other cells, it is none of the overlay's own, and not known below
pub unknown_own : (s : Seen) (frame : ℕ) (own : List Own) (looked : List ℕ) → AreSettings s frame own → (p : ℕ)
    → IsUnknown (seen_over s frame own looked) p → is_own own p ≡ false
unknown_own s frame own looked are p unknown = elim (own_or_not own p) [
  | inl mine ↦ (let (r, has) = own_has own p mine in absurd (unknown r (knows_own s frame own looked are p r has)))
  | inr other ↦ other
]

pub unknown_below : (s : Seen) (frame : ℕ) (own : List Own) (looked : List ℕ) → AreSettings s frame own → (p : ℕ)
    → IsUnknown (seen_over s frame own looked) p → IsUnknown s p
unknown_below s frame own looked are p unknown r knows = unknown r (knows_below s frame own looked are p r
    (unknown_own s frame own looked are p unknown) knows)

among_own : (own : List Own) (p : ℕ) → Contains (map (λ (o : Own). o.place) own) p → is_own own p ≡ true
among_own own p has =
    let (o, among, same) = map_among (λ (o : Own). o.place) p own has in
    has_own own p o.value (subst (λ n. Has own n o.value) same (among_map own_setting o own among))

-- A place that was not known is set.
module _ (P : NamedProgram) (s : Seen) (frame : ℕ) (own : List Own) (looked : List ℕ) (p : ℕ) (r : Ref)
    (over : IsOver P s frame own looked) (coherent : IsCoherent s)
    (unknown : IsUnknown (seen_over s frame own looked) p) where
  are_old : AreSettings s frame own
  are_old = settings_of P s frame own looked over coherent

  abbrev newest : Own
  newest = record { place = p; value = r; before = s.known }

  are_new : r ≢ Free → p < s.words + frame → AreSettings s frame (newest ∷ own)
  are_new set low = record {
    apart = distinct_cons p (map (λ (o : Own). o.place) own) (λ m has same. true≢false
        (sym (subst (λ n. is_own own n ≡ true) (sym same) (among_own own m has)) ∙ unknown_own s frame own looked are_old p unknown))
        over.apart;
    set = All-cons (λ (o : Own). o.value ≢ Free) newest own set over.set;
    low = All-cons (λ (o : Own). o.place < s.words + frame) newest own low over.low;
    late = (
      sym (take_all (length s.known) s.known (omega arith)),
      λ q has. unknown_below s frame own looked are_old p unknown q
          (listed_knows s coherent p q has),
      over.late,
    );
    coherent = coherent;
  }

  -- what was known is known
  older_known : (set : r ≢ Free) (low : p < s.words + frame) → (n : ℕ) (q : Ref) → Knows (seen_over s frame own looked) n q
      → Knows (seen_over s frame (newest ∷ own) looked) n q
  older_known set low n q knows =
      let then = are_new set low in
      elim (knows_from s frame own looked are_old n q knows) [
        | inl has ↦ knows_own s frame (newest ∷ own) looked then n q (among_more (own_setting newest) (record { place = n; value = q })
            (map own_setting own) has)
        | inr below ↦ knows_below s frame (newest ∷ own) looked then n q
            (own_there newest own n (λ same. unknown_below s frame own looked are_old p unknown q
            (subst (λ m. Knows s m q) (sym same) below.1)) ∙ below.0) below.1
      ]

  older_unknown : (set : r ≢ Free) (low : p < s.words + frame) → (n : ℕ) → IsUnknown (seen_over s frame (newest ∷ own) looked) n
      → IsUnknown (seen_over s frame own looked) n
  older_unknown set low n none q knows = none q (older_known set low n q knows)

  -- so the overlay is one still,
  pub over_new : r ≢ Free → p < s.words + frame → CanHold P (s.words + frame) p r
      → ((pair : ℕ) → r ≡ Number pair → IsKnownWritten (seen_over s frame own looked) pair)
      → (p < s.words → Contains looked p) → IsOver P s frame (newest ∷ own) looked
  over_new set low fits written noted =
      let then = are_new set low in record {
        apart = then.apart;
        set = then.set;
        low = then.low;
        fits = All-cons (λ (o : Own). CanHold P (s.words + frame) o.place o.value) newest own fits over.fits;
        late = then.late;
        below = over.below;
        written = λ o among pair place is which none_here none. elim (among_cases newest o own among) [
          | inl same ↦ of_pair pair place which (older_unknown set low place none_here) none
              (written pair (sym (ap (λ (o : Own). o.value) same) ∙ is))
          | inr old ↦ over.written o old pair place is which (older_unknown set low place none_here) none
        ];
        looked_low = over.looked_low;
        noted = All-cons (λ (o : Own). o.place < s.words → stands_in looked o.place ≡ true) newest own
            (λ below. among_stands looked p (noted below)) over.noted;
        coherent = coherent_over s frame (newest ∷ own) looked then;
      }
    where
      of_pair : (pair place : ℕ) → (place ≡ pair) ⊎ (place ≡ suc pair) → IsUnknown (seen_over s frame own looked) place
          → ((cell : ℕ) → Knows s cell (Number pair) → ⊥)
          → IsKnownWritten (seen_over s frame own looked) pair → ⊥
      of_pair pair place (inl first) none_here none (inl both) = none_here both.0.0
          (subst (λ n. Knows (seen_over s frame own looked) n both.0.0) (sym first) both.0.1)
      of_pair pair place (inr second) none_here none (inl both) = none_here both.1.0
          (subst (λ n. Knows (seen_over s frame own looked) n both.1.0) (sym second) both.1.1)
      of_pair pair place which none_here none (inr cell) = elim (knows_from s frame own looked are_old cell.0 (Number pair) cell.1) [
        | inl has ↦ (let (o, among, same) = map_among own_setting (record { place = cell.0; value = Number pair }) own has in
            over.written o among pair place (ap (λ (t : Setting). t.value) same) which none_here none)
        | inr below ↦ none cell.0 below.1
      ]

  -- and the setting is one.
  pub sets_new : r ≢ Free → p < s.words + frame → IfSome (seen_over s frame own looked).told (λ row. word_at row p ≡ Free)
      → Sets p r (seen_over s frame own looked) (seen_over s frame (newest ∷ own) looked)
  sets_new set low free =
      let then = are_new set low in record {
        not_known = unknown;
        free = free;
        adds = λ n q. (
          (λ knows. elim (knows_from s frame (newest ∷ own) looked then n q knows) [
            | inl has ↦ elim (among_cases (own_setting newest) (record { place = n; value = q }) (map own_setting own) has) [
              | inl first ↦ inr (ap (λ (t : Setting). t.place) first, ap (λ (t : Setting). t.value) first)
              | inr old ↦ inl (knows_own s frame own looked are_old n q old)
            ]
            | inr below ↦ inl (knows_below s frame own looked are_old n q
                (elim (own_or_not own n) [ inl mine ↦ absurd (older_own n mine below.0) | inr other ↦ other ]) below.1)
          ]),
          elim [
            | inl knows ↦ older_known set low n q knows
            | inr is ↦ knows_own s frame (newest ∷ own) looked then n q
                (subst (λ (t : Setting). Contains (map own_setting (newest ∷ own)) t) (here n q is)
                (among_first (own_setting newest) (map own_setting own)))
          ],
        );
        gains = inr (known_new own s.known p r);
        words = refl;
        told = by_told s.told;
        missed = inl refl;
      }
    where
      here : (n : ℕ) (q : Ref) → (n ≡ p) × (q ≡ r) → own_setting newest ≡ record { place = n; value = q }
      here n q is = cc

      older_own : (n : ℕ) → is_own own n ≡ true → is_own (newest ∷ own) n ≡ false → ⊥
      older_own n mine other = elim (cases_eq p n) [
        | inl same ↦ true≢false (sym mine ∙ ap (is_own own) (sym same) ∙ unknown_own s frame own looked are_old p unknown)
        | inr apart ↦ true≢false (sym mine ∙ sym (own_there newest own n apart) ∙ other)
      ]

      by_told : (told : Option (List Ref)) → option_map (λ row. row_over (newest ∷ own) (row ++ replicate frame Free)) told ≡ option_map
          (λ row. slice_set row p r) (option_map (λ row. row_over own (row ++ replicate frame Free)) told)
      by_told None = refl
      by_told (Some row) = refl

-- what was not known when it was missed is not known then
pub unknown_missed : (old new : Seen) (shared p : ℕ) → Misses shared p old new → IsUnknown new p
unknown_missed old new shared p misses q knows =
    misses.not_known q (subst (λ t. IsAmong t old.known p q) misses.told (subst (λ k. IsAmong new.told k p q) misses.known knows))

-- and is free then
pub free_missed : (old new : Seen) (shared p : ℕ) → Misses shared p old new → IfSome new.told (λ row. word_at row p ≡ Free)
free_missed old new shared p misses = subst (λ t. IfSome t (λ row. word_at row p ≡ Free)) (sym misses.told) misses.free

-- a word that was found free and then set was set
pub missed_sets : (old mid new : Seen) (shared p : ℕ) (r : Ref) → Misses shared p old mid → Sets p r mid new → new.missed ≡ mid.missed
    → Sets p r old new
missed_sets old mid new shared p r misses sets still = record {
  not_known = misses.not_known;
  free = misses.free;
  adds = λ n q. (
    (λ knows. elim ((sets.adds n q).0 knows) [ inl before ↦ inl (back n q before) | inr is ↦ inr is ]),
    elim [ inl before ↦ (sets.adds n q).1 (inl (forth n q before)) | inr is ↦ (sets.adds n q).1 (inr is) ],
  );
  gains = elim sets.gains [
    | inl same ↦ inl (same ∙ misses.known)
    | inr more ↦ inr (more ∙ ap (λ ks. ks ++ record { setting = record { place = p; value = r }; is_own = true } ∷ []) misses.known)
  ];
  words = sets.words ∙ misses.words;
  told = sets.told ∙ ap (option_map (λ row. slice_set row p r)) misses.told;
  missed = elim misses.missed [ inl same ↦ inl (still ∙ same) | inr more ↦ inr (still ∙ more) ];
}
  where
    back : (n : ℕ) (q : Ref) → Knows mid n q → Knows old n q
    back n q knows = subst (λ t. IsAmong t old.known n q) misses.told (subst (λ k. IsAmong mid.told k n q) misses.known knows)

    forth : (n : ℕ) (q : Ref) → Knows old n q → Knows mid n q
    forth n q knows = subst (λ t. IsAmong t mid.known n q) (sym misses.told) (subst (λ k. IsAmong old.told k n q) (sym misses.known) knows)

-- a place that was noted as missed stands in the list
pub noted_place : (looked : List ℕ) (p : ℕ) → Contains (map word looked) (word p) → Contains looked p
noted_place looked p has = let (q, among, same) = map_among word (word p) looked has in subst (Contains looked) (cc) among

-- in an overlay in which nothing is set, what is known below is known, and nothing else
pub begun_knows : (s : Seen) (frame : ℕ) (looked : List ℕ) (p : ℕ) (r : Ref) → Knows s p r ↔ Knows (seen_over s frame [] looked) p r
begun_knows s frame looked p r = by_told s.told
  where
    by_told : (told : Option (List Ref))
        → IsAmong told s.known p r ↔ IsAmong (option_map (λ row. row_over [] (row ++ replicate frame Free)) told) (known_over [] s.known) p r
    by_told None = ((λ knows. knows), λ knows. knows)
    by_told (Some row) =
        let same = word_in_front row frame p in
        ((λ knows. (same ∙ knows.0, knows.1)), λ knows. (sym same ∙ knows.0, knows.1))
