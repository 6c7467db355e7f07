-- What comes of a free cell that takes what stands on the other side, and of a cell that leads to a structure.
use Rattle.std.proofs.Common.{ℕ, ◌≡◌, ◌≢◌, ◌<◌, ◌≤◌, List, [], ◌∷◌, ◌++◌, length, false, refl, sym, subst, ◌∙◌, inl}
use Rattle.and_model.specs.Store.{is_half}
use Rattle.and_model.specs.declared.reference.Ref.{Ref}
use Rattle.and_model.specs.declared.reference.Ref.TheVariants.{Free, Cell, Node, Number, Half}
use Rattle.and_cells.specs.Ranges.{NamedProgram, CanHold, IsInRange, IsInRangeOrHalf}
use Rattle.and_cells.specs.Rows.{plain, IsSound, IsBelow}
use Rattle.and_cells.specs.Seen.{Seen, Sets, OnlyReads, LeadsTo, here, onward, IsSetTo, IsWrittenIfNumber, word_at}
use Rattle.and_cells.proofs.Chains.{reads_nothing, or_half, written_since_known}
use Rattle.and_heads.specs.declared.parts.Part.{Part}
use Rattle.and_heads.specs.declared.entering.Entered.{Entered}
use Rattle.and_heads.specs.declared.entering.Entered.TheVariants.{Done, Apart, GivenUp}
use Rattle.and_heads.specs.Entering.{Meets}
use Rattle.and_heads.specs.Owing.{EndsAt}
use Rattle.and_heads.proofs.Comparing.{pair_of, set_left, set_right}
use Rattle.and_heads.proofs.Meeting.{meets_led}

-- A reference leads to what it is,
pub leads_at_once : (s : Seen) (left to : Ref) → left ≡ to → LeadsTo s left to
leads_at_once s left to is = subst (λ r. LeadsTo s r to) (sym is) (here to)

-- and a cell to what it is set to.
pub set_leads : (row : List Ref) (left word to : Ref) (from : ℕ) → left ≡ Cell from → word ≡ word_at row from → word ≡ to → to ≢ Free
    → LeadsTo (plain row) left to
set_leads row left word to from is value same set =
    let knows : IsSetTo row from to = (sym value ∙ same, set) in
    subst (λ r. LeadsTo (plain row) r to) (sym is) (onward from to to knows (here to))

module _ (P : NamedProgram) (s new : Seen) (left right : Ref) (cell : ℕ) (to : Ref) (parts : List Part) (bound last : List ℕ) (r : Entered) (apart : r ≢ Apart)
    (given_up : r ≡ GivenUp → OnlyReads s new × (last ≡ bound)) (done : r ≡ Done → Sets cell to s new × (last ≡ bound ++ cell ∷ [])) where
  -- The right one is a free cell, and takes what the left one leads to.
  pub filled : right ≡ Cell cell → LeadsTo s left to → is_half to ≡ false → ((other : ℕ) → to ≡ Cell other → other < cell) → cell < s.words
      → IsInRangeOrHalf P s.words to → IsWrittenIfNumber s to → Meets P (pair_of left right) s new parts parts bound last r
  filled is leads whole falls below fits written =
      meets_led P left right to right s s new parts parts bound last r
      (record { reads = reads_nothing s; left_leads = leads; right_leads = here right })
      (set_right P s new to right cell parts bound last r apart given_up done (record { is = is; no_half = whole; falls = falls })
      (subst (IsInRangeOrHalf P s.words) (sym is) below) fits written)

  -- The left one is a free cell, and takes the right one.
  pub filled_left : left ≡ Cell cell → right ≡ to → is_half to ≡ false → ((other : ℕ) → to ≡ Cell other → other < cell) → cell < s.words
      → IsInRangeOrHalf P s.words to → IsWrittenIfNumber s to → Meets P (pair_of left right) s new parts parts bound last r
  filled_left is same whole falls below fits written =
      subst (λ x. Meets P (pair_of left x) s new parts parts bound last r) (sym same)
      (set_left P s new left to cell parts bound last r apart given_up done (record { is = is; no_half = whole; falls = falls })
      (subst (IsInRangeOrHalf P s.words) (sym is) below) fits written)

-- What the left one leads to was compared.
pub compared_from : (P : NamedProgram) (s : Seen) (left right to : Ref) (parts longer : List Part) (bound : List ℕ) (r : Entered) → LeadsTo s left to
    → Meets P (pair_of to right) s s parts longer bound bound r → Meets P (pair_of left right) s s parts longer bound bound r
compared_from P s left right to parts longer bound r leads =
    meets_led P left right to right s s s parts longer bound bound r
    (record { reads = reads_nothing s; left_leads = leads; right_leads = here right })

-- What the right one leads to was met.
pub met_beyond : (P : NamedProgram) (s new : Seen) (left right to : Ref) (parts longer : List Part) (bound last : List ℕ) (r : Entered) → LeadsTo s right to
    → Meets P (pair_of left to) s new parts longer bound last r → Meets P (pair_of left right) s new parts longer bound last r
met_beyond P s new left right to parts longer bound last r leads =
    meets_led P left right left to s s new parts longer bound last r
    (record { reads = reads_nothing s; left_leads = here left; right_leads = leads })

-- A reference that begins below the floor is a structure or a number:
module _ (floor : ℕ) where
  -- it is set,
  pub below_is_set : (r : Ref) → IsBelow floor r → r ≢ Free
  below_is_set Free below = elim below [ ]
  below_is_set (Cell cell) below = elim below [ ]
  below_is_set (Node node base) below = λ e. absurd (cc)
  below_is_set (Number pair) below = λ e. absurd (cc)
  below_is_set (Half bits) below = elim below [ ]

  -- no half,
  pub below_whole : (r : Ref) → IsBelow floor r → is_half r ≡ false
  below_whole Free below = elim below [ ]
  below_whole (Cell cell) below = elim below [ ]
  below_whole (Node node base) below = refl
  below_whole (Number pair) below = refl
  below_whole (Half bits) below = elim below [ ]

  -- no cell,
  pub below_no_cell : (r : Ref) → IsBelow floor r → (cell other : ℕ) → r ≡ Cell other → other < cell
  below_no_cell Free below cell other e = elim below [ ]
  below_no_cell (Cell c) below cell other e = elim below [ ]
  below_no_cell (Node node base) below cell other e = absurd (cc)
  below_no_cell (Number pair) below cell other e = absurd (cc)
  below_no_cell (Half bits) below cell other e = elim below [ ]

  -- in range where a cell is set to it,
  pub below_fits : (P : NamedProgram) (words place : ℕ) (r : Ref) → IsBelow floor r → CanHold P words place r → IsInRange P words r
  below_fits P words place Free below fits = elim below [ ]
  below_fits P words place (Cell cell) below fits = elim below [ ]
  below_fits P words place (Node node base) below fits = fits
  below_fits P words place (Number pair) below fits = fits
  below_fits P words place (Half bits) below fits = elim below [ ]

  -- and may be held by every other cell,
  pub below_held : (P : NamedProgram) (words place other : ℕ) (r : Ref) → IsBelow floor r → CanHold P words place r → CanHold P words other r
  below_held P words place other Free below fits = elim below [ ]
  below_held P words place other (Cell cell) below fits = elim below [ ]
  below_held P words place other (Node node base) below fits = fits
  below_held P words place other (Number pair) below fits = fits
  below_held P words place other (Half bits) below fits = elim below [ ]

  -- and paths from a cell from the floor on end there.
  pub below_ends : (P : NamedProgram) (cell : ℕ) (r : Ref) → floor ≤ cell → IsBelow floor r → EndsAt P floor cell r
  below_ends P cell Free high below = elim below [ ]
  below_ends P cell (Cell other) high below = elim below [ ]
  below_ends P cell (Node node base) high below = inl (high, below)
  below_ends P cell (Number pair) high below = tt
  below_ends P cell (Half bits) high below = elim below [ ]

-- The right one is a free cell, and takes the structure or number that the left one, a cell, is set to.
pub filled_as : (P : NamedProgram) (row : List Ref) (new : Seen) (floor from cell : ℕ) (parts : List Part) (bound last : List ℕ) (r : Entered)
    → r ≢ Apart → (r ≡ GivenUp → OnlyReads (plain row) new × (last ≡ bound))
    → (r ≡ Done → Sets cell (word_at row from) (plain row) new × (last ≡ bound ++ cell ∷ []))
    → IsBelow floor (word_at row from) → IsSound P row → cell < length row
    → Meets P (pair_of (Cell from) (Cell cell)) (plain row) new parts parts bound last r
filled_as P row new floor from cell parts bound last r apart given_up done below sound there =
    let to : Ref = word_at row from in
    let is_set = below_is_set floor to below in
    let knows : IsSetTo row from to = (refl, is_set) in
    filled P (plain row) new (Cell from) (Cell cell) cell to parts bound last r apart given_up done refl
    (set_leads row (Cell from) to to from refl refl refl is_set) (below_whole floor to below) (below_no_cell floor to below cell) there
    (or_half P (length row) to (below_fits floor P (length row) from to below (sound.fits from)))
    (written_since_known (plain row) from to knows)
