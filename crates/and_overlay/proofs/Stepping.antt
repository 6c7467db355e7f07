-- What steps on the cells below, and settings that are kept, change in what an overlay knows.
use Rattle.std.proofs.Common.{ℕ, ◌≡◌, ◌≢◌, ◌+◌, ◌<◌, ◌≤◌, ◌⊎◌, inl, inr, true, false, not, cond, List, [], ◌∷◌, ◌++◌, map, length, take, drop, replicate}
use Rattle.std.proofs.Common.{refl, sym, ap, subst, ◌∙◌, arith, Some, None, append_assoc}
use Rattle.std.specs.Prelude.{All, Contains, Option, IfSome, filter}
use Rattle.std.specs.Option.{option_map}
use Rattle.std.proofs.lemmas.List.{map-append, length-take, drop-append-le, take-append-le, drop_all}
use Rattle.std.proofs.lemmas.List.Elements.{All-contains, All-filter, All-weaker, filter-append}
use Rattle.and_model.specs.Prefixes.{IsPrefix}
use Rattle.and_model.specs.Store.{Setting, Known, word}
use Rattle.and_model.specs.declared.reference.Ref.{Ref}
use Rattle.and_model.specs.declared.reference.Ref.TheVariants.{Free, Number}
use Rattle.and_cells.specs.Ranges.{NamedProgram, CanHold}
use Rattle.and_cells.specs.Seen.{Seen, Knows, IsAmong, IsCoherent, Finds, Misses, OnlyReads, word_at}
use Rattle.and_cells.proofs.Among.{among_map, map_among}
use Rattle.and_cells.proofs.Keeping.{can_hold_more, word_in_front, nothing_there}
use Rattle.and_overlay.specs.Overlaid.{Own, is_own, stands_in, own_known, not_own, known_over, row_over, seen_over, AreLate, IsKnownFit, IsOver}
use Rattle.and_overlay.proofs.Owned.{own_setting, Has, not_has, row_other}
use Rattle.and_overlay.proofs.Knowing.{AreSettings, settings_of, knows_from, knows_own, knows_below, has_one, coherent_over}

-- ---- what is learnt below goes to the end

front_fits : (o : Own) (known : List Known) → o.before ≡ take (length o.before) known → length o.before ≤ length known
front_fits o known front = let long = ap length front ∙ length-take (length o.before) known in omega arith

all_kept : (known : List Known) → filter (λ (k : Known). not false) known ≡ known
all_kept [] = refl
all_kept (k ∷ known) = ap (λ ks. k ∷ ks) (all_kept known)

pub known_more : (own : List Own) (known more : List Known) → AreLate own known
    → known_over own (known ++ more) ≡ known_over own known ++ not_own own more
known_more [] known more late = ap (λ ks. known ++ ks) (sym (all_kept more))
known_more (o ∷ own) known more late =
    let n = length o.before in
    let front = known_over own o.before in
    ap (λ ks. front ++ own_known o ∷ not_own (o ∷ own) ks) (drop-append-le n known more (front_fits o known late.0))
    ∙ ap (λ ks. front ++ own_known o ∷ ks) (filter-append (λ (k : Known). not (is_own (o ∷ own) k.setting.place)) (drop n known) more)
    ∙ sym (append_assoc front (own_known o ∷ not_own (o ∷ own) (drop n known)) (not_own (o ∷ own) more))

late_more : (own : List Own) (known more : List Known) → AreLate own known → AreLate own (known ++ more)
late_more [] known more late = tt
late_more (o ∷ own) known more late =
    (late.0 ∙ sym (take-append-le (length o.before) known more (front_fits o known late.0)), late.1, late.2)

one_kept : (own : List Own) (k : Known) → is_own own k.setting.place ≡ false → not_own own (k ∷ []) ≡ k ∷ []
one_kept own k other = ap (λ b. cond (not b) (k ∷ []) []) other

-- ---- the newest setting

pub known_new : (own : List Own) (known : List Known) (p : ℕ) (r : Ref)
    → known_over (record { place = p; value = r; before = known } ∷ own) known ≡ known_over own known ++ record
    { setting = record { place = p; value = r }; is_own = true } ∷ []
known_new own known p r =
    ap (λ ks. known_over own known ++ record { setting = record { place = p; value = r }; is_own = true } ∷ not_own
    (record { place = p; value = r; before = known } ∷ own) ks) (drop_all (length known) known (omega arith))

-- ---- steps

-- What the overlay's own, and the looks that were noted, make of what is seen below.
module _ (P : NamedProgram) (frame : ℕ) (own : List Own) where
  -- a word that was set in the overlay is found
  pub finds_own : (s : Seen) (looked : List ℕ) (p : ℕ) (r : Ref) → IsOver P s frame own looked → IsCoherent s → Has own p r
      → Finds P p r (seen_over s frame own looked) (seen_over s frame own looked)
  finds_own s looked p r over coherent has =
      let are = settings_of P s frame own looked over coherent in
      let (o, among, same) = map_among own_setting (record { place = p; value = r }) own has in
      let ov = seen_over s frame own looked in record {
        is_set = subst (λ (t : Setting). t.value ≢ Free) same (All-contains (λ (o : Own). o.value ≢ Free) own o over.set among);
        fits = subst (λ (t : Setting). CanHold P (s.words + frame) t.place t.value) same
            (All-contains (λ (o : Own). CanHold P (s.words + frame) o.place o.value) own o over.fits among);
        as_known = λ q knows. elim (knows_from s frame own looked are p q knows)
            [ inl other ↦ has_one s frame own looked are p r q has other | inr below ↦ absurd (not_has own p r below.0 has) ];
        adds = λ n q. (
          inl,
          elim [
            | inl knows ↦ knows
            | inr is ↦ subst (λ x. Knows ov n x) (sym is.1)
                (subst (λ x. Knows ov x r) (sym is.0) (knows_own s frame own looked are p r has))
          ],
        );
        gains = inl refl;
        words = refl;
        told = refl;
        missed = refl;
      }

  -- a word of the frame is free unless it was set
  pub misses_frame : (s : Seen) (looked : List ℕ) (p below : ℕ) → IsOver P s frame own looked → IsCoherent s → below ≡ s.words → below ≤ p
      → is_own own p ≡ false
      → Misses below p (seen_over s frame own looked) (seen_over s frame own looked)
  misses_frame s looked p below over coherent is past other =
      let are = settings_of P s frame own looked over coherent in record {
        not_known = λ q knows. elim (knows_from s frame own looked are p q knows) [
          | inl has ↦ not_has own p q other has
          | inr known ↦ (let low = (over.below p q known.1).0 in absurd (omega arith))
        ];
        free = by_told s.told refl;
        known = refl;
        words = refl;
        told = refl;
        missed = inl refl;
        noted = λ low. absurd (omega arith);
      }
    where
      by_told : (told : Option (List Ref)) → s.told ≡ told → IfSome (option_map (λ row. row_over own (row ++ replicate frame Free)) told)
          (λ row. word_at row p ≡ Free)
      by_told None so = tt
      by_told (Some row) so =
          let long : length row ≡ s.words = subst (λ t. IfSome t (λ row. length row ≡ s.words)) so coherent.whole in
          row_other own (row ++ replicate frame Free) p other ∙ word_in_front row frame p ∙ nothing_there row p (omega arith)

  -- a word that was found free below is free, and noted
  pub misses_below : (s z : Seen) (looked more : List ℕ) (p shared below : ℕ) → IsOver P s frame own looked → IsCoherent s
      → Misses shared p s z → is_own own p ≡ false
      → (more ≡ looked) ⊎ (more ≡ looked ++ p ∷ []) → Contains more p → Misses below p (seen_over s frame own looked)
      (seen_over z frame own more)
  misses_below s z looked more p shared below over coherent misses other joined noted =
      let are = settings_of P s frame own looked over coherent in record {
        not_known = λ q knows. elim (knows_from s frame own looked are p q knows)
            [ inl has ↦ not_has own p q other has | inr known ↦ misses.not_known q known.1 ];
        free = by_told s.told misses.free;
        known = ap (known_over own) misses.known;
        words = ap (λ n. n + frame) misses.words;
        told = ap (option_map (λ row. row_over own (row ++ replicate frame Free))) misses.told;
        missed = elim joined [ inl same ↦ inl (ap (map word) same) | inr new ↦ inr (ap (map word) new ∙ map-append word looked (p ∷ [])) ];
        noted = λ low. among_map word p more noted;
      }
    where
      by_told : (told : Option (List Ref)) → IfSome told (λ row. word_at row p ≡ Free)
          → IfSome (option_map (λ row. row_over own (row ++ replicate frame Free)) told) (λ row. word_at row p ≡ Free)
      by_told None free = tt
      by_told (Some row) free = row_other own (row ++ replicate frame Free) p other ∙ word_in_front row frame p ∙ free

  -- a word that was found set below is found
  pub finds_below : (s z : Seen) (looked : List ℕ) (p : ℕ) (r : Ref) → IsOver P s frame own looked → IsCoherent s
      → IsOver P z frame own looked → IsCoherent z
      → Finds P p r s z → is_own own p ≡ false → Finds P p r (seen_over s frame own looked) (seen_over z frame own looked)
  finds_below s z looked p r over coherent later coherent_later finds other =
      let are = settings_of P s frame own looked over coherent in
      let then = settings_of P z frame own looked later coherent_later in
      let ov = seen_over s frame own looked in
      let new = seen_over z frame own looked in record {
        is_set = finds.is_set;
        fits = can_hold_more P s.words (s.words + frame) p r (omega arith) finds.fits;
        as_known = λ q knows. elim (knows_from s frame own looked are p q knows)
            [ inl has ↦ absurd (not_has own p q other has) | inr known ↦ finds.as_known q known.1 ];
        adds = λ n q. (
          (λ knows. elim (knows_from z frame own looked then n q knows) [
            | inl has ↦ inl (knows_own s frame own looked are n q has)
            | inr known ↦ elim ((finds.adds n q).0 known.1) [
              | inl before ↦ inl (knows_below s frame own looked are n q known.0 before)
              | inr is ↦ inr is
            ]
          ]),
          elim [
            | inl knows ↦ elim (knows_from s frame own looked are n q knows) [
              | inl has ↦ knows_own z frame own looked then n q has
              | inr known ↦ knows_below z frame own looked then n q known.0 ((finds.adds n q).1 (inl known.1))
            ]
            | inr is ↦ knows_below z frame own looked then n q (subst (λ x. is_own own x ≡ false) (sym is.0) other)
                ((finds.adds n q).1 (inr is))
          ],
        );
        gains = elim finds.gains [
          | inl same ↦ inl (ap (known_over own) same)
          | inr more ↦ inr (ap (known_over own) more ∙ known_more own s.known _ over.late
              ∙ ap (λ ks. known_over own s.known ++ ks) (one_kept own _ other))
        ];
        words = ap (λ n. n + frame) finds.words;
        told = ap (option_map (λ row. row_over own (row ++ replicate frame Free))) finds.told;
        missed = refl;
      }

  -- What is only read below is only read: what is known stays so.
  pub knows_later : (s z : Seen) (looked more : List ℕ) → AreSettings s frame own → AreSettings z frame own → OnlyReads s z
      → (p : ℕ) (q : Ref)
      → Knows (seen_over s frame own looked) p q → Knows (seen_over z frame own more) p q
  knows_later s z looked more are then reads p q knows = elim (knows_from s frame own looked are p q knows) [
    | inl has ↦ knows_own z frame own more then p q has
    | inr known ↦ knows_below z frame own more then p q known.0 (reads.keeps p q known.1)
  ]

  pub reads_below : (s z : Seen) (looked more : List ℕ) → IsOver P s frame own looked → IsCoherent s → IsOver P z frame own more
      → IsCoherent z → OnlyReads s z
      → IsPrefix looked more → OnlyReads (seen_over s frame own looked) (seen_over z frame own more)
  reads_below s z looked more over coherent later coherent_later reads front = record {
    keeps = knows_later s z looked more (settings_of P s frame own looked over coherent)
        (settings_of P z frame own more later coherent_later) reads;
    learnt = not_own own reads.learnt;
    gains = ap (known_over own) reads.gains ∙ known_more own s.known reads.learnt over.late;
    none_own = All-filter (λ (k : Known). not (is_own own k.setting.place)) (λ (k : Known). k.is_own ≡ false) reads.learnt reads.none_own;
    words = ap (λ n. n + frame) reads.words;
    told = ap (option_map (λ row. row_over own (row ++ replicate frame Free))) reads.told;
    missed = (map word front.0, ap (map word) front.1 ∙ map-append word looked front.0);
  }

  -- the settings go on being such
  pub settings_later : (s z : Seen) → AreSettings s frame own → OnlyReads s z → IsCoherent z → AreSettings z frame own
  settings_later s z are reads coherent = record {
    apart = are.apart;
    set = are.set;
    low = subst (λ n. All (λ (o : Own). o.place < n + frame) own) (sym reads.words) are.low;
    late = subst (AreLate own) (sym reads.gains) (late_more own s.known reads.learnt are.late);
    coherent = coherent;
  }

  -- and the overlay goes on being one.
  pub over_later : (s z : Seen) (looked more : List ℕ) → IsOver P s frame own looked → IsCoherent s → OnlyReads s z → IsCoherent z
      → IsKnownFit P z
      → All (λ (place : ℕ). place < s.words) more → ((p : ℕ) → stands_in looked p ≡ true → stands_in more p ≡ true)
      → IsOver P z frame own more
  over_later s z looked more over coherent reads coherent_later fit low longer =
      let are = settings_of P s frame own looked over coherent in
      let then = settings_later s z are reads coherent_later in record {
        apart = then.apart;
        set = then.set;
        low = then.low;
        fits = subst (λ n. All (λ (o : Own). CanHold P (n + frame) o.place o.value) own) (sym reads.words) over.fits;
        late = then.late;
        below = fit;
        written = λ o among pair place is word unknown none. over.written o among pair place is word
            (λ r knows. unknown r (knows_later s z looked more are then reads place r knows))
            (λ cell knows. none cell (reads.keeps cell (Number pair) knows));
        looked_low = subst (λ n. All (λ (place : ℕ). place < n) more) (sym reads.words) low;
        noted = All-weaker (λ (o : Own). o.place < s.words → stands_in looked o.place ≡ true)
            (λ (o : Own). o.place < z.words → stands_in more o.place ≡ true)
            (λ o was low_later. longer o.place (was (subst (λ n. o.place < n) reads.words low_later))) own over.noted;
        coherent = coherent_over z frame own more then;
      }

  -- what was found below fits
  pub fit_found : (s z : Seen) (p : ℕ) (r : Ref) → IsKnownFit P s → p < s.words → Finds P p r s z → IsKnownFit P z
  fit_found s z p r fit low finds n q knows = elim ((finds.adds n q).0 knows) [
    | inl before ↦ (let was = fit n q before in (
      subst (λ w. n < w) (sym finds.words) was.0,
      subst (λ w. CanHold P w n q)
          (sym finds.words) was.1,
    ))
    | inr is ↦ (
      subst (λ w. n < w) (sym finds.words) (subst (λ m. m < s.words) (sym is.0) low),
      subst (λ w. CanHold P w n q) (sym finds.words) (subst (λ m. CanHold P s.words m q) (sym is.0)
          (subst (CanHold P s.words p) (sym is.1) finds.fits)),
    )
  ]

  pub fit_missed : (s z : Seen) (shared p : ℕ) → IsKnownFit P s → Misses shared p s z → IsKnownFit P z
  fit_missed s z shared p fit misses n q knows =
      let was = fit n q (subst (λ t. IsAmong t s.known n q) misses.told (subst (λ k. IsAmong z.told k n q) misses.known knows)) in
      (subst (λ w. n < w) (sym misses.words) was.0, subst (λ w. CanHold P w n q) (sym misses.words) was.1)
