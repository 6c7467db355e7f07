-- Lists of places of a row, each once.
use Rattle.std.proofs.Common.{ℕ, zero, suc, Some, map, slice_get, ◌≡◌, ◌≢◌, ◌<◌, ◌≤◌, ◌⊎◌, inl, inr, List, [], ◌∷◌, ◌++◌, length, get_or, set, sym, ap, subst}
use Rattle.std.proofs.Common.{◌∙◌, arith}
use Rattle.std.specs.Prelude.{Contains}
use Rattle.std.proofs.lemmas.Bool.{cases_eq}
use Rattle.std.proofs.lemmas.List.{get_or_append_left, get_or_push, get_or_default, get_or-set_same, get_or-set_other, length-append}
use Rattle.std.proofs.lemmas.List.Elements.{All-push, All-weaker}
use Rattle.std.proofs.Math.ListN.{length-set}
use Rattle.and_cells.proofs.Distinct.{distinct_push, few_distinct}
use Rattle.and_overlay.specs.Places.{Places, AreKept}

-- a place that does not stand in the list is apart from each that does
apart_from : (places : List ℕ) (place : ℕ) → (Contains places place → ⊥) → (i : ℕ) → i < length places → get_or places i 0 ≢ place
apart_from places place apart i below e = apart (i, below, get_or_default places i place 0 below ∙ e)

-- while a place is missing, fewer stand in the list than there is room for
few_places : (places slots : List ℕ) (capacity place : ℕ) → AreKept places slots capacity → place < length slots
    → (Contains places place → ⊥) → length places < length slots
few_places places slots capacity place kept low apart =
    let more = few_distinct (places ++ place ∷ []) (length slots) (distinct_push places place kept.apart (apart_from places place apart))
    (All-push (λ (p : ℕ). p < length slots) places place kept.low low) in
    omega (arith, more, length-append places (place ∷ []))

pub kept_push : (places slots after : List ℕ) (capacity more place slot : ℕ) → AreKept places slots capacity → place < length slots
    → (Contains places place → ⊥)
    → after ≡ places ++ place ∷ [] → slot ≡ length places → capacity ≤ more → AreKept after (set slots place slot) more
kept_push places slots after capacity more place slot kept low apart is_after is_slot wider =
    let long = length-set slots place slot in
    subst (λ ps. AreKept ps (set slots place slot) more) (sym is_after) (record {
      apart = distinct_push places place kept.apart (apart_from places place apart);
      low = All-weaker (λ (p : ℕ). p < length slots) (λ (p : ℕ). p < length (set slots place slot)) (λ p below. omega arith)
          (places ++ place ∷ [])
          (All-push (λ (p : ℕ). p < length slots) places place kept.low low);
      found = λ i below. at i below (cases_eq i (length places));
      room = let room = kept.room in omega arith;
      few = let few = kept.few in omega arith;
    })
  where
    at : (i : ℕ) → i < length (places ++ place ∷ []) → (i ≡ length places) ⊎ (i ≢ length places)
        → get_or (set slots place slot) (get_or (places ++ place ∷ []) i 0) 0 ≡ i
    at i below (inl last) =
        let here : get_or (places ++ place ∷ []) i 0 ≡ place = get_or_push places place 0 i (sym last) in
        ap (λ p. get_or (set slots place slot) p 0) here ∙ get_or-set_same slots place slot 0 low ∙ is_slot ∙ sym last
    at i below (inr inner) =
        let first : i < length places = let long = length-append places (place ∷ []) in omega arith in
        let there : get_or (places ++ place ∷ []) i 0 ≡ get_or places i 0 = get_or_append_left places (place ∷ []) 0 i first in
        let other : get_or places i 0 ≢ place = apart_from places place apart i first in
        ap (λ p. get_or (set slots place slot) p 0) there ∙ get_or-set_other slots place (get_or places i 0) slot 0 other
        ∙ kept.found i first

-- what is asked of a place that is put in, said of the list's fields
pub asked_of : (places slots : List ℕ) (capacity place : ℕ) (now : Places) → record { listed = places; room = length slots } ≡ now
    → AreKept places slots capacity
    → place < now.room → (Contains now.listed place → ⊥) → (place < length slots) × (Contains places place → ⊥)
    × (length places < length slots)
asked_of places slots capacity place now is kept low apart =
    let low_there : place < length slots = subst (λ (v : Places). place < v.room) (sym is) low in
    let apart_there : Contains places place → ⊥ = subst (λ (v : Places). Contains v.listed place → ⊥) (sym is) apart in
    (low_there, apart_there, few_places places slots capacity place kept low_there apart_there)

-- what stands in a slot of a list of places, is the place of what stands there in the list that these are places of
pub at_slot : {X : Type 0} (place : X → ℕ) (xs : List X) (i p : ℕ) (d : X) → slice_get (map place xs) i ≡ Some p → (i < length xs)
    × (place (get_or xs i d) ≡ p)
at_slot place [] i p d e = absurd (cc)
at_slot place (x ∷ xs) zero p d e = (omega arith, cc)
at_slot place (x ∷ xs) (suc i) p d e = let rest = at_slot place xs i p d e in (let low = rest.0 in omega arith, rest.1)
