-- The settings of an overlay as they are kept.
use Rattle.std.proofs.Common.{ℕ, ◌≡◌, inl, inr, false, List, [], ◌∷◌, ◌++◌, map, reverse, refl, sym, ap, subst, ◌∙◌, ◌<◌, true}
use Rattle.std.specs.Prelude.{Contains}
use Rattle.std.proofs.lemmas.List.{map-append, reverse-append}
use Rattle.std.proofs.lemmas.List.Elements.{All-contains, Contains-append_left, Contains-append_right, Contains-append_cases}
use Rattle.and_model.specs.declared.reference.Ref.{Ref}
use Rattle.and_cells.specs.Ranges.{NamedProgram}
use Rattle.and_cells.specs.Seen.{Seen}
use Rattle.and_cells.proofs.Among.{among_first, among_more, among_cases, among_none, among_map, map_among}
use Rattle.and_overlay.specs.declared.scratch.OwnSetting.{OwnSetting}
use Rattle.and_overlay.specs.Overlaid.{Own, is_own, stands_in, IsOver}
use Rattle.and_overlay.specs.Settings.{own_of, own_in}
use Rattle.and_overlay.proofs.Owned.{own_setting, Has, not_has, not_among, stands_among}

turned : {X : Type 0} (x : X) (xs : List X) → reverse (x ∷ xs) ≡ reverse xs ++ x ∷ []
turned x xs = reverse-append (x ∷ []) xs

among_reverse : {X : Type 0} (y : X) (xs : List X) → Contains xs y → Contains (reverse xs) y
among_reverse y [] has = absurd (among_none y has)
among_reverse y (x ∷ xs) has = subst (λ ys. Contains ys y) (sym (turned x xs)) (elim (among_cases x y xs has) [
  | inl same ↦ Contains-append_right (reverse xs) (x ∷ []) y (subst (Contains (x ∷ [])) (sym same) (among_first x []))
  | inr rest ↦ Contains-append_left (reverse xs) (x ∷ []) y (among_reverse y xs rest)
])

reverse_among : {X : Type 0} (y : X) (xs : List X) → Contains (reverse xs) y → Contains xs y
reverse_among y [] has = absurd (among_none y has)
reverse_among y (x ∷ xs) has = elim (Contains-append_cases (reverse xs) (x ∷ []) y (subst (λ ys. Contains ys y) (turned x xs) has)) [
  | inl rest ↦ among_more x y xs (reverse_among y xs rest)
  | inr last ↦ elim (among_cases x y [] last) [
    | inl same ↦ subst (Contains (x ∷ xs)) (sym same) (among_first x xs)
    | inr none ↦ absurd (among_none y none)
  ]
]

-- what stands in the list is the overlay's own,
pub has_kept : {C : Type 0} (seen : C → Seen) (items : List (OwnSetting C)) (p : ℕ) (r : Ref) (s : OwnSetting C) → Contains items s
    → s.place ≡ p → s.value ≡ r → Has (own_in seen items) p r
has_kept {C} seen items p r s among place value =
    let there : Contains (own_in seen items) (own_of seen s) = among_reverse (own_of seen s) (map (own_of seen) items)
    (among_map (own_of seen) s items among) in
    let has = among_map own_setting (own_of seen s) (own_in seen items) there in
    subst (λ n. Has (own_in seen items) n r) place (subst (Has (own_in seen items) s.place) value has)

-- and a place that does not is not.
pub not_kept : {C : Type 0} (seen : C → Seen) (items : List (OwnSetting C)) (p : ℕ) → (Contains (map (λ s. s.place) items) p → ⊥)
    → is_own (own_in seen items) p ≡ false
not_kept {C} seen items p apart = not_among (own_in seen items) p (λ has.
    let (o, among, same) = map_among (λ (o : Own). o.place) p (own_in seen items) has in
    let (s, there, is) = map_among (own_of seen) o items (reverse_among o (map (own_of seen) items) among) in
    apart (subst (Contains (map (λ (s : OwnSetting C). s.place) items)) (ap (λ (o : Own). o.place) is ∙ same)
    (among_map (λ (s : OwnSetting C). s.place) s items there)))

-- the newest one stands at the end of the list
pub kept_push : {C : Type 0} (seen : C → Seen) (items after : List (OwnSetting C)) (s : OwnSetting C) → after ≡ items ++ s ∷ []
    → own_in seen after ≡ own_of seen s ∷ own_in seen items
kept_push seen items after s is =
    ap (own_in seen) is ∙ ap reverse (map-append (own_of seen) items (s ∷ []))
    ∙ reverse-append (map (own_of seen) items) (own_of seen s ∷ [])

pub not_kept_back : {C : Type 0} (seen : C → Seen) (items : List (OwnSetting C)) (p : ℕ) → is_own (own_in seen items) p ≡ false
    → Contains (map (λ (s : OwnSetting C). s.place) items) p → ⊥
not_kept_back {C} seen items p other has =
    let (s, among, same) = map_among (λ (s : OwnSetting C). s.place) p items has in
    not_has (own_in seen items) p s.value other (has_kept seen items p s.value s among same refl)

-- what is set of the cells below was found free there
pub kept_noted : {C : Type 0} (P : NamedProgram) (s : Seen) (frame : ℕ) (seen : C → Seen) (items : List (OwnSetting C)) (looked : List ℕ)
    → IsOver P s frame (own_in seen items) looked
    → (p : ℕ) → Contains (map (λ (s : OwnSetting C). s.place) items) p → p < s.words → Contains looked p
kept_noted {C} P s frame seen items looked over p has low =
    let (setting, among, same) = map_among (λ (s : OwnSetting C). s.place) p items has in
    let there : Contains (own_in seen items) (own_of seen setting) = among_reverse (own_of seen setting) (map (own_of seen) items)
    (among_map (own_of seen) setting items among) in
    let noted = All-contains (λ (o : Own). o.place < s.words → stands_in looked o.place ≡ true) (own_in seen items) (own_of seen setting)
    over.noted there in
    subst (Contains looked) same (stands_among looked setting.place (noted (subst (λ n. n < s.words) (sym same) low)))
