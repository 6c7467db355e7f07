-- Cells that were taken, as entries of a list.
use Rattle.std.proofs.Common.{ℕ, zero, suc, ℤ, ◌≡◌, ◌≢◌, ◌<◌, ◌⊎◌, inl, inr, List, [], ◌∷◌, ◌++◌, map, length, get_or, set, Option, None, refl, ap, sym, ◌∙◌}
use Rattle.std.proofs.Common.{subst, arith}
use Rattle.std.specs.Prelude.{Contains}
use Rattle.std.proofs.lemmas.Bool.{cases_eq, cases_lt}
use Rattle.std.proofs.lemmas.List.{length-map, get_or-map, map-set, set-get_or, get_or-set_other, get_or-set_same, length-set, length_push, get_or_push}
use Rattle.std.proofs.lemmas.List.{get_or_append_left}
use Rattle.std.proofs.lemmas.Grind.{get_or-set_at}
use Rattle.and_arith.specs.Taken.{Listed, entry_of, cells_of, IsNew, Gives, AreSlotted, no_entry}
use Rattle.and_arith.specs.declared.taken.Entry.{Entry}

-- an element is the same whatever stands for none
pub any_default : {X : Type 0} (xs : List X) (i : ℕ) (d e : X) → i < length xs → get_or xs i d ≡ get_or xs i e
any_default [] i d e below = absurd (omega arith)
any_default (x ∷ xs) zero d e below = refl
any_default (x ∷ xs) (suc i) d e below = any_default xs i d e (omega arith)

pub length_listed : (items : List Entry) → length (map entry_of items) ≡ length items
length_listed items = length-map items entry_of

listed_at : (items : List Entry) (i : ℕ) (d : ℕ × Option ℤ) → i < length items → get_or (map entry_of items) i d ≡ entry_of (get_or items i no_entry)
listed_at items i d below = get_or-map entry_of items i no_entry d below

-- a cell whose slot leads to no entry of its own was not taken
pub new_if : (slots : List ℕ) (items : List Entry) (cell : ℕ) → AreSlotted slots items
    → (get_or slots cell 0 < length items → (get_or items (get_or slots cell 0) no_entry).cell ≢ cell) → IsNew (map entry_of items) cell
new_if slots items cell slotted none v (i, below, is) =
    let low : i < length items = subst (λ n. i < n) (length_listed items) below in
    let own : (get_or items i no_entry).cell ≡ cell = ap (λ (e : ℕ × Option ℤ). e.0) (sym (listed_at items i (cell, v) low) ∙ is) in
    let slot : get_or slots cell 0 ≡ i = ap (λ c. get_or slots c 0) (sym own) ∙ slotted i low in
    none (omega (arith, slot, low)) (ap (λ k. (get_or items k no_entry).cell) slot ∙ own)

-- and that of an entry was
pub taken_at : (items : List Entry) (i : ℕ) (cell : ℕ) (e : Entry) → i < length items → e ≡ get_or items i no_entry → e.cell ≡ cell
    → Contains (map entry_of items) (cell, e.value)
taken_at items i cell e below is at = (
  i,
  subst (λ n. i < n) (sym (length_listed items)) below,
  listed_at items i (cell, e.value) below ∙ ap entry_of (sym is) ∙ ap (λ r. (r, e.value)) at,
)

-- the cell of an entry
cell_at : (items : List Entry) (i : ℕ) (d : ℕ) → i < length items → get_or (cells_of (map entry_of items)) i d ≡ (get_or items i no_entry).cell
cell_at items i d below =
    get_or-map (λ (x : ℕ × Option ℤ). x.0) (map entry_of items) i (0, None) d (subst (λ n. i < n) (sym (length_listed items)) below)
    ∙ ap (λ (x : ℕ × Option ℤ). x.0) (listed_at items i (0, None) below)

-- An entry that has its cell again leaves the slots right,
pub slotted_again : (slots : List ℕ) (items : List Entry) (i : ℕ) (e : Entry) → i < length items → (get_or items i no_entry).cell ≡ e.cell
    → AreSlotted slots items → AreSlotted slots (set items i e)
slotted_again slots items i e below at slotted j inside =
    let low : j < length items = subst (λ n. j < n) (length-set items i e) inside in
    elim (cases_eq j i) [
      | inl same ↦ ap (λ (x : Entry). get_or slots x.cell 0) (get_or-set_at items i j e no_entry same below) ∙ ap (λ c. get_or slots c 0) (sym at)
          ∙ slotted i below ∙ sym same
      | inr apart ↦ ap (λ (x : Entry). get_or slots x.cell 0) (get_or-set_other items i j e no_entry apart) ∙ slotted j low
    ]

module _ (slots : List ℕ) (items : List Entry) (i : ℕ) (e : Entry) (below : i < length items) (at : (get_or items i no_entry).cell ≡ e.cell)
    (slotted : AreSlotted slots items) where
  -- and the cells,
  cells_stay : cells_of (map entry_of (set items i e)) ≡ cells_of (map entry_of items)
  cells_stay =
      ap cells_of (map-set entry_of items i e) ∙ map-set (λ (x : ℕ × Option ℤ). x.0) (map entry_of items) i (entry_of e)
      ∙ ap (λ r. set (cells_of (map entry_of items)) i r) (sym (cell_at items i 0 below ∙ at)) ∙ set-get_or (cells_of (map entry_of items)) i 0

  others : (j : ℕ) (c : ℕ) (v : Option ℤ) → j < length items → j ≢ i → entry_of (get_or items j no_entry) ≡ (c, v) → c ≢ e.cell
  others j c v low apart is same =
      let own : (get_or items j no_entry).cell ≡ c = ap (λ (x : ℕ × Option ℤ). x.0) is in
      let both : (get_or items j no_entry).cell ≡ (get_or items i no_entry).cell = own ∙ same ∙ sym at in
      apart (sym (slotted j low) ∙ ap (λ c. get_or slots c 0) both ∙ slotted i below)

  -- and gives the cell its value.
  pub gives : Gives e.cell e.value (map entry_of items) (map entry_of (set items i e))
  gives = record { cells = cells_stay; only = only_one }
    where
      only_one : (c : ℕ) (v : Option ℤ) → Contains (map entry_of (set items i e)) (c, v)
          → ((c ≡ e.cell) × (v ≡ e.value)) ⊎ ((c ≢ e.cell) × Contains (map entry_of items) (c, v))
      only_one c v (j, inside, is) =
          let long : length (map entry_of (set items i e)) ≡ length items = length_listed (set items i e) ∙ length-set items i e in
          let low : j < length items = subst (λ n. j < n) long inside in
          let low_new : j < length (set items i e) = subst (λ n. j < n) (length_listed (set items i e)) inside in
          let was : entry_of (get_or (set items i e) j no_entry) ≡ (c, v) = sym (listed_at (set items i e) j (c, v) low_new) ∙ is in
          elim (cases_eq j i) [
            | inl same ↦
                let here : entry_of e ≡ (c, v) = ap entry_of (sym (get_or-set_at items i j e no_entry same below)) ∙ was in
                inl (sym (ap (λ (x : ℕ × Option ℤ). x.0) here), sym (ap (λ (x : ℕ × Option ℤ). x.1) here))
            | inr apart ↦
                let there : entry_of (get_or items j no_entry) ≡ (c, v) = ap entry_of (sym (get_or-set_other items i j e no_entry apart)) ∙ was in
                inr (others j c v low apart there, (j, subst (λ n. j < n) (sym (length_listed items)) low, listed_at items j (c, v) low ∙ there))
          ]

-- A cell that was not taken gets an entry at the end, and its slot.
pub slotted_push : (slots : List ℕ) (items : List Entry) (e : Entry) → e.cell < length slots → IsNew (map entry_of items) e.cell → AreSlotted slots items
    → AreSlotted (set slots e.cell (length items)) (items ++ e ∷ [])
slotted_push slots items e room new slotted j inside =
    elim (cases_lt j (length items)) [
      | inl low ↦
          let at : get_or (items ++ e ∷ []) j no_entry ≡ get_or items j no_entry = get_or_append_left items (e ∷ []) no_entry j low in
          let apart : (get_or items j no_entry).cell ≢ e.cell =
          λ same. new (get_or items j no_entry).value (taken_at items j e.cell (get_or items j no_entry) low refl same) in
          ap (λ (x : Entry). get_or (set slots e.cell (length items)) x.cell 0) at
          ∙ get_or-set_other slots e.cell (get_or items j no_entry).cell (length items) 0 apart ∙ slotted j low
      | inr past ↦
          let last : length items ≡ j = omega (arith, length_push items e, inside, past) in
          ap (λ (x : Entry). get_or (set slots e.cell (length items)) x.cell 0) (get_or_push items e no_entry j last)
          ∙ get_or-set_same slots e.cell (length items) 0 room ∙ last
    ]

-- how long the list is
pub length_of : (items : List Entry) (taken : Listed) → map entry_of items ≡ taken → length taken ≡ length items
length_of items taken is = ap length (sym is) ∙ length_listed items

-- the cell of an entry of the list
pub cell_of : (items : List Entry) (taken : Listed) (i : ℕ) (d : ℕ × Option ℤ) → map entry_of items ≡ taken → i < length items
    → (get_or taken i d).0 ≡ (get_or items i no_entry).cell
cell_of items taken i d is below = ap (λ (xs : Listed). (get_or xs i d).0) (sym is) ∙ ap (λ (x : ℕ × Option ℤ). x.0) (listed_at items i d below)

-- slots that are the same serve as well
pub slotted_by : (slots more : List ℕ) (items : List Entry) → ((c : ℕ) → get_or more c 0 ≡ get_or slots c 0) → AreSlotted slots items → AreSlotted more items
slotted_by slots more items same slotted i below = same (get_or items i no_entry).cell ∙ slotted i below
