-- What an overlay set, and what it knows of the cells below.
use Rattle.std.proofs.Common.{ℕ, ◌≡◌, ◌≢◌, ◌<◌, ◌⊎◌, inl, inr, Bool, true, false, cond, not, List, [], ◌∷◌, ◌++◌, map, length, set, take, drop, refl, sym, ap}
use Rattle.std.proofs.Common.{subst, ◌∙◌, eq-eqb, ne_eqb, true≢false}
use Rattle.std.specs.Prelude.{All, Contains, filter}
use Rattle.std.proofs.lemmas.Bool.{cases_eq}
use Rattle.std.proofs.lemmas.List.{map-append, take-append-drop}
use Rattle.std.proofs.lemmas.List.Elements.{All-head, All-tail, Contains-append_left, Contains-append_right, Contains-append_cases}
use Rattle.std.proofs.Math.ListN.{length-set}
use Rattle.and_model.specs.Store.{Setting, Known, AreDistinct}
use Rattle.and_model.specs.declared.reference.Ref.{Ref}
use Rattle.and_cells.specs.Seen.{word_at}
use Rattle.and_cells.proofs.Among.{among_first, among_more, among_cases, among_none, among_map, map_among}
use Rattle.and_overlay.proofs.Sifting.{filter_among, among_filter, distinct_first, distinct_rest, distinct_cons, distinct_append, distinct_front}
use Rattle.and_overlay.proofs.Sifting.{distinct_back, distinct_parts}
use Rattle.and_cells.proofs.Keeping.{word_set_here, word_set_other}
use Rattle.and_overlay.specs.Overlaid.{Own, is_own, stands_in, own_known, not_own, known_over, row_over, AreLate}

abbrev pub own_setting : Own → Setting
own_setting o = record { place = o.place; value = o.value }

abbrev pub settings : List Known → List Setting
settings known = map (λ (k : Known). k.setting) known

-- the place was set to this
abbrev pub Has : List Own → (place : ℕ) → Ref → Type 0
Has own place r = Contains (map own_setting own) (record { place = place; value = r })

pub own_or_not : (own : List Own) (p : ℕ) → (is_own own p ≡ true) ⊎ (is_own own p ≡ false)
own_or_not own p = by (is_own own p) refl
  where
    by : (b : Bool) → is_own own p ≡ b → (is_own own p ≡ true) ⊎ (is_own own p ≡ false)
    by true is = inl is
    by false is = inr is

-- of the newest setting, or of an older one
own_here : (o : Own) (own : List Own) (p : ℕ) → o.place ≡ p → is_own (o ∷ own) p ≡ true
own_here o own p same = ap (λ b. cond b true (is_own own p)) (eq-eqb o.place p same)

pub own_there : (o : Own) (own : List Own) (p : ℕ) → o.place ≢ p → is_own (o ∷ own) p ≡ is_own own p
own_there o own p other = ap (λ b. cond b true (is_own own p)) (ne_eqb o.place p other)

-- a place that has a setting is the overlay's own,
pub has_own : (own : List Own) (p : ℕ) (r : Ref) → Has own p r → is_own own p ≡ true
has_own [] p r has = absurd (among_none _ has)
has_own (o ∷ own) p r has = elim (cases_eq o.place p) [
  | inl same ↦ own_here o own p same
  | inr other ↦ own_there o own p other ∙ elim (among_cases (own_setting o) (record { place = p; value = r }) (map own_setting own) has) [
    | inl first ↦ absurd (other (sym (ap (λ (s : Setting). s.place) first)))
    | inr rest ↦ has_own own p r rest
  ]
]

-- and a place of its own has one.
pub own_has : (own : List Own) (p : ℕ) → is_own own p ≡ true → (r : Ref) × Has own p r
own_has [] p is = absurd (cc)
own_has (o ∷ own) p is = elim (cases_eq o.place p) [
  | inl same ↦ (o.value, subst (λ n. Has (o ∷ own) n o.value) same (among_first (own_setting o) (map own_setting own)))
  | inr other ↦ (let (r, has) = own_has own p (sym (own_there o own p other) ∙ is) in
      (r, among_more (own_setting o) (record { place = p; value = r }) (map own_setting own) has))
]

pub not_has : (own : List Own) (p : ℕ) (r : Ref) → is_own own p ≡ false → Has own p r → ⊥
not_has own p r other has = true≢false (sym (has_own own p r has) ∙ other)

-- no setting stands at a place that is not among the places
pub not_among : (own : List Own) (p : ℕ) → (Contains (map (λ (o : Own). o.place) own) p → ⊥) → is_own own p ≡ false
not_among own p apart = elim (own_or_not own p) [
  | inl is ↦ (let (r, has) = own_has own p is in
      let (o, among, same) = map_among own_setting (record { place = p; value = r }) own has in
      absurd (apart (subst (Contains (map (λ (o : Own). o.place) own)) (ap (λ (s : Setting). s.place) same)
      (among_map (λ (o : Own). o.place) o own among))))
  | inr is ↦ is
]

-- ---- lists of places

pub among_stands : (places : List ℕ) (p : ℕ) → Contains places p → stands_in places p ≡ true
among_stands [] p has = absurd (among_none p has)
among_stands (q ∷ places) p has = elim (among_cases q p places has) [
  | inl same ↦ ap (λ b. cond b true (stands_in places p)) (eq-eqb q p (sym same))
  | inr rest ↦ elim (cases_eq q p) [
    | inl same ↦ ap (λ b. cond b true (stands_in places p)) (eq-eqb q p same)
    | inr other ↦ ap (λ b. cond b true (stands_in places p)) (ne_eqb q p other) ∙ among_stands places p rest
  ]
]

pub stands_among : (places : List ℕ) (p : ℕ) → stands_in places p ≡ true → Contains places p
stands_among [] p is = absurd (cc)
stands_among (q ∷ places) p is = elim (cases_eq q p) [
  | inl same ↦ subst (Contains (q ∷ places)) same (among_first q places)
  | inr other ↦ among_more q p places (stands_among places p (sym (ap (λ b. cond b true (stands_in places p)) (ne_eqb q p other)) ∙ is))
]

-- ---- rows that are told

pub length_row_over : (own : List Own) (row : List Ref) → length (row_over own row) ≡ length row
length_row_over [] row = refl
length_row_over (o ∷ own) row = length-set (row_over own row) o.place o.value ∙ length_row_over own row

-- where nothing was set, the word is the row's,
pub row_other : (own : List Own) (row : List Ref) (p : ℕ) → is_own own p ≡ false → word_at (row_over own row) p ≡ word_at row p
row_other [] row p other = refl
row_other (o ∷ own) row p other = elim (cases_eq o.place p) [
  | inl same ↦ absurd (true≢false (sym (own_here o own p same) ∙ other))
  | inr apart ↦ word_set_other (row_over own row) o.place p o.value (λ e. apart (sym e))
      ∙ row_other own row p (sym (own_there o own p apart) ∙ other)
]

-- and else it is what was set.
pub row_own : (own : List Own) (row : List Ref) (p : ℕ) (r : Ref) → AreDistinct (map (λ (o : Own). o.place) own)
    → All (λ (o : Own). o.place < length row) own
    → Has own p r → word_at (row_over own row) p ≡ r
row_own [] row p r apart low has = absurd (among_none _ has)
row_own (o ∷ own) row p r apart low has = elim (among_cases (own_setting o) (record { place = p; value = r }) (map own_setting own) has) [
  | inl first ↦ (
      let below : o.place < length (row_over own row) = subst (λ n. o.place < n) (sym (length_row_over own row))
      (All-head (λ (o : Own). o.place < length row) o own low) in
      word_set_here (row_over own row) o.place p o.value below (ap (λ (s : Setting). s.place) first)
      ∙ sym (ap (λ (s : Setting). s.value) first))
  | inr rest ↦ (
      let (old, among, same) = map_among own_setting (record { place = p; value = r }) own rest in
      let there = subst (Contains (map (λ (o : Own). o.place) own)) (ap (λ (s : Setting). s.place) same)
      (among_map (λ (o : Own). o.place) old own among) in
      word_set_other (row_over own row) o.place p o.value (λ e. distinct_first o.place (map (λ (o : Own). o.place) own) apart p there
      (sym e))
      ∙ row_own own row p r (distinct_rest o.place (map (λ (o : Own). o.place) own) apart)
      (All-tail (λ (o : Own). o.place < length row) o own low) rest)
]

-- ---- what is known where no row is told

split_known : (o : Own) (own : List Own) (known : List Known)
    → settings (known_over (o ∷ own) known) ≡ settings (known_over own o.before) ++ own_setting o ∷ settings
    (not_own (o ∷ own) (drop (length o.before) known))
split_known o own known = map-append (λ (k : Known). k.setting) (known_over own o.before)
    (own_known o ∷ not_own (o ∷ own) (drop (length o.before) known))

-- what was known before a setting, and what was learnt since
before_and_since : (o : Own) (known : List Known) → o.before ≡ take (length o.before) known
    → settings known ≡ settings o.before ++ settings (drop (length o.before) known)
before_and_since o known front =
    ap settings (sym (take-append-drop (length o.before) known)) ∙ map-append (λ (k : Known). k.setting) (take (length o.before) known)
    (drop (length o.before) known)
    ∙ ap (λ ks. settings ks ++ settings (drop (length o.before) known)) (sym front)

not_true : (b : Bool) → not b ≡ true → b ≡ false
not_true true e = absurd (cc)
not_true false e = refl

-- where it was not known before a setting, it is of another place
apart_before : (o : Own) (own : List Own) (known : List Known) (s : Setting) → AreLate (o ∷ own) known → is_own own s.place ≡ false
    → Contains (settings o.before) s
    → is_own (o ∷ own) s.place ≡ false
apart_before o own known s late other old =
    own_there o own s.place (λ same. late.1 s.value (subst (λ n. Contains (settings o.before) (record { place = n; value = s.value }))
    (sym same) old)) ∙ other

-- what was learnt since a setting is no place of the overlay's own
since_from : (o : Own) (own : List Own) (known : List Known) (s : Setting) → o.before ≡ take (length o.before) known
    → Contains (settings (not_own (o ∷ own) (drop (length o.before) known))) s → (is_own (o ∷ own) s.place ≡ false)
    × Contains (settings known) s
since_from o own known s front has =
    let (k, among, same) = map_among (λ (k : Known). k.setting) s (not_own (o ∷ own) (drop (length o.before) known)) has in
    let (there, other) = filter_among (λ (k : Known). not (is_own (o ∷ own) k.setting.place)) k (drop (length o.before) known) among in (
      subst (λ (s : Setting). is_own (o ∷ own) s.place ≡ false) same (not_true (is_own (o ∷ own) k.setting.place) other),
      subst (λ ss. Contains ss s) (sym (before_and_since o known front))
          (Contains-append_right (settings o.before) (settings (drop (length o.before) known)) s
          (subst (Contains (settings (drop (length o.before) known))) same
          (among_map (λ (k : Known). k.setting) k (drop (length o.before) known) there))),
    )

in_front : (o : Own) (known : List Known) (s : Setting) → o.before ≡ take (length o.before) known → Contains (settings o.before) s
    → Contains (settings known) s
in_front o known s front old =
    subst (λ ss. Contains ss s) (sym (before_and_since o known front)) (Contains-append_left (settings o.before)
    (settings (drop (length o.before) known)) s old)

-- What is known over other cells was set, or is known below and no place of the overlay's own.
pub known_from : (own : List Own) (known : List Known) (s : Setting) → AreLate own known → Contains (settings (known_over own known)) s
    → Contains (map own_setting own) s ⊎ ((is_own own s.place ≡ false) × Contains (settings known) s)
known_from [] known s late has = inr (refl, has)
known_from (o ∷ own) known s late has =
    elim (Contains-append_cases (settings (known_over own o.before)) (own_setting o ∷ settings
    (not_own (o ∷ own) (drop (length o.before) known))) s (subst (λ ss. Contains ss s) (split_known o own known) has)) [
      | inl old ↦ elim (known_from own o.before s late.2 old) [
        | inl set ↦ inl (among_more (own_setting o) s (map own_setting own) set)
        | inr below ↦ inr (apart_before o own known s late below.0 below.1, in_front o known s late.0 below.1)
      ]
      | inr later ↦ elim (among_cases (own_setting o) s (settings (not_own (o ∷ own) (drop (length o.before) known))) later) [
        | inl newest ↦ inl (subst (Contains (map own_setting (o ∷ own))) (sym newest) (among_first (own_setting o) (map own_setting own)))
        | inr since ↦ inr (since_from o own known s late.0 since)
      ]
    ]

-- What was set is known,
pub known_own : (own : List Own) (known : List Known) (s : Setting) → Contains (map own_setting own) s
    → Contains (settings (known_over own known)) s
known_own [] known s has = absurd (among_none s has)
known_own (o ∷ own) known s has =
    let back = settings (not_own (o ∷ own) (drop (length o.before) known)) in
    subst (λ ss. Contains ss s) (sym (split_known o own known)) (elim (among_cases (own_setting o) s (map own_setting own) has) [
      | inl newest ↦ Contains-append_right (settings (known_over own o.before)) (own_setting o ∷ back) s
          (subst (Contains (own_setting o ∷ back)) (sym newest) (among_first (own_setting o) back))
      | inr old ↦ Contains-append_left (settings (known_over own o.before)) (own_setting o ∷ back) s (known_own own o.before s old)
    ])

-- and so is what is known below of other places.
pub known_below : (own : List Own) (known : List Known) (s : Setting) → AreLate own known → is_own own s.place ≡ false
    → Contains (settings known) s
    → Contains (settings (known_over own known)) s
known_below [] known s late other has = has
known_below (o ∷ own) known s late other has =
    let since = drop (length o.before) known in
    let back = settings (not_own (o ∷ own) since) in
    subst (λ ss. Contains ss s) (sym (split_known o own known))
    (elim (Contains-append_cases (settings o.before) (settings since) s
    (subst (λ ss. Contains ss s) (before_and_since o known late.0) has)) [
      | inl old ↦ Contains-append_left (settings (known_over own o.before)) (own_setting o ∷ back) s
          (known_below own o.before s late.2 (was_not o own s.place other) old)
      | inr later ↦ Contains-append_right (settings (known_over own o.before)) (own_setting o ∷ back) s (among_more (own_setting o) s back (
          let (k, among, same) = map_among (λ (k : Known). k.setting) s since later in
          subst (Contains back) same (among_map (λ (k : Known). k.setting) k (not_own (o ∷ own) since)
          (among_filter (λ (k : Known). not (is_own (o ∷ own) k.setting.place)) k since among
          (ap not (subst (λ (s : Setting). is_own (o ∷ own) s.place ≡ false) (sym same) other))))))
    ])
  where
    was_not : (o : Own) (own : List Own) (p : ℕ) → is_own (o ∷ own) p ≡ false → is_own own p ≡ false
    was_not o own p other = elim (cases_eq o.place p) [
      | inl same ↦ absurd (true≢false (sym (own_here o own p same) ∙ other))
      | inr apart ↦ sym (own_there o own p apart) ∙ other
    ]

-- ---- each once

abbrev pub places_of : List Known → List ℕ
places_of known = map (λ (k : Known). k.setting.place) known

-- a place of what is known has a setting
placed : (known : List Known) (p : ℕ) → Contains (places_of known) p → (s : Setting) × Contains (settings known) s × (s.place ≡ p)
placed known p has =
    let (k, among, same) = map_among (λ (k : Known). k.setting.place) p known has in
    (k.setting, among_map (λ (k : Known). k.setting) k known among, same)

pub place_of : (known : List Known) (s : Setting) → Contains (settings known) s → Contains (places_of known) s.place
place_of known s has =
    let (k, among, same) = map_among (λ (k : Known). k.setting) s known has in
    subst (λ (s : Setting). Contains (places_of known) s.place) same (among_map (λ (k : Known). k.setting.place) k known among)

kept_apart : (p : Known → Bool) (known : List Known) → AreDistinct (places_of known) → AreDistinct (places_of (filter p known))
kept_apart p [] apart = apart
kept_apart p (k ∷ known) apart = by_test (kept_apart p known (distinct_rest k.setting.place (places_of known) apart)) (p k)
  where
    by_test : AreDistinct (places_of (filter p known)) → (b : Bool) → AreDistinct (places_of (cond b (k ∷ filter p known) (filter p known)))
    by_test rest false = rest
    by_test rest true = distinct_cons k.setting.place (places_of (filter p known)) (λ n has.
        let (q, among, same) = map_among (λ (k : Known). k.setting.place) n (filter p known) has in
        distinct_first k.setting.place (places_of known) apart n
        (subst (Contains (places_of known)) same (among_map (λ (k : Known). k.setting.place) q known (filter_among p q known among).0)))
        rest

-- Nothing is known twice over cells of which nothing is known twice.
pub known_once : (own : List Own) (known : List Known) → AreDistinct (map (λ (o : Own). o.place) own) → AreLate own known
    → AreDistinct (places_of known)
    → AreDistinct (places_of (known_over own known))
known_once [] known apart late once = once
known_once (o ∷ own) known apart late once =
    let front = o.before in
    let back = drop (length o.before) known in
    let since = not_own (o ∷ own) back in
    let whole : places_of known ≡ places_of front ++ places_of back =
    ap places_of (sym (take-append-drop (length o.before) known)) ∙ map-append (λ (k : Known). k.setting.place)
    (take (length o.before) known) back
    ∙ ap (λ ks. places_of ks ++ places_of back) (sym late.0) in
    let parts : AreDistinct (places_of front ++ places_of back) = subst AreDistinct whole once in
    let split : places_of (known_over (o ∷ own) known) ≡ places_of (known_over own o.before) ++ o.place ∷ places_of since =
    map-append (λ (k : Known). k.setting.place) (known_over own o.before) (own_known o ∷ since) in
    let old : AreDistinct (places_of (known_over own o.before)) =
    known_once own o.before (distinct_rest o.place (map (λ (o : Own). o.place) own) apart) late.2
    (distinct_front (places_of front) (places_of back) parts) in
    let rest : AreDistinct (places_of since) = kept_apart (λ (k : Known). not (is_own (o ∷ own) k.setting.place)) back
    (distinct_back (places_of front) (places_of back) parts) in
    subst AreDistinct (sym split) (distinct_append (places_of (known_over own o.before)) (o.place ∷ places_of since) old
    (distinct_cons o.place (places_of since) (λ n has same. let (t, among, is) = placed since n has in
    true≢false (sym (own_here o own t.place (same ∙ sym is)) ∙ (since_from o own known t late.0 among).0)) rest)
    (λ n here there. let (t, among, is) = placed (known_over own o.before) n here in
    elim (known_from own o.before t late.2 among) [
      | inl set ↦ elim (among_cases o.place n (places_of since) there) [
        | inl newest ↦ distinct_first o.place (map (λ (o : Own). o.place) own) apart n
            (subst (Contains (map (λ (o : Own). o.place) own)) is (place_set own t set)) (sym newest)
        | inr later ↦ (let (u, known_there, same) = placed since n later in
            true≢false (sym (own_newer o own u.place (has_own own u.place t.value (subst (λ q. Has own q t.value) (is ∙ sym same) set)))
            ∙ (since_from o own known u late.0 known_there).0))
      ]
      | inr below ↦ elim (among_cases o.place n (places_of since) there) [
        | inl newest ↦ late.1 t.value (subst (λ q. Contains (settings o.before) (record { place = q; value = t.value })) (is ∙ newest)
            below.1)
        | inr later ↦ distinct_parts (places_of front) (places_of back) parts n
            (subst (Contains (places_of front)) is (place_of front t below.1))
            (let (k, was, same) = map_among (λ (k : Known). k.setting.place) n since later in
            subst (Contains (places_of back)) same (among_map (λ (k : Known). k.setting.place) k back
            (filter_among (λ (k : Known). not (is_own (o ∷ own) k.setting.place)) k back was).0))
      ]
    ]))
  where
    place_set : (own : List Own) (t : Setting) → Contains (map own_setting own) t → Contains (map (λ (o : Own). o.place) own) t.place
    place_set own t set =
        let (old, among, same) = map_among own_setting t own set in
        subst (λ (s : Setting). Contains (map (λ (o : Own). o.place) own) s.place) same (among_map (λ (o : Own). o.place) old own among)

    own_newer : (o : Own) (own : List Own) (p : ℕ) → is_own own p ≡ true → is_own (o ∷ own) p ≡ true
    own_newer o own p is = elim (cases_eq o.place p) [
      | inl same ↦ own_here o own p same
      | inr other ↦ own_there o own p other ∙ is
    ]
