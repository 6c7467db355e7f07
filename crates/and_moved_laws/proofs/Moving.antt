-- Places and references that were moved.
use Rattle.std.proofs.Common.{ℕ, zero, suc, ◌+◌, ◌≡◌, ◌<◌, ◌≤◌, List, length, refl, sym, ap, ◌∙◌, inl, inr, arith}
use Rattle.std.proofs.lemmas.Bool.{cases_lt}
use Rattle.and_model.specs.Store.{is_half}
use Rattle.and_model.specs.declared.numbers.NodeNo.{NodeNo}
use Rattle.and_model.specs.declared.reference.Ref.{Ref}
use Rattle.and_model.specs.declared.reference.Ref.TheVariants.{Free, Cell, Node, Number, Half}
use Rattle.and_cells.specs.Ranges.{NamedProgram}
use Rattle.and_cells.specs.Numbers.{bits_of}
use Rattle.and_cells.specs.Seen.{word_at}
use Rattle.and_moved_laws.specs.Parts.{moved, IsPartOf}

-- ---- Places

module _ (at : ℕ → ℕ) (rises : (p q : ℕ) → p < q → at p < at q) where
  pub keeps_order : (p q : ℕ) → p ≤ q → at p ≤ at q
  keeps_order p q low = elim (cases_lt p q) [
    | inl less ↦ let h = rises p q less in omega arith
    | inr more ↦ let e : p ≡ q = omega arith in let same : at p ≡ at q = ap at e in omega arith
  ]

  pub falls_back : (p q : ℕ) → at p < at q → p < q
  falls_back p q low = elim (cases_lt p q) [
    | inl less ↦ less
    | inr more ↦ let h = keeps_order q p more in absurd (omega arith)
  ]

  pub one_origin : (p q : ℕ) → at p ≡ at q → p ≡ q
  one_origin p q e = elim (cases_lt p q) [
    | inl less ↦ let h = rises p q less in absurd (omega arith)
    | inr more ↦ elim (cases_lt q p) [
      | inl less ↦ let h = rises q p less in absurd (omega arith)
      | inr same ↦ omega arith
    ]
  ]

  -- No place is moved down.
  pub no_lower : (p : ℕ) → p ≤ at p
  no_lower zero = omega arith
  no_lower (suc p) = let h = no_lower p in let l = rises p (suc p) (omega arith) in omega arith

-- ---- References

-- what is moved to nothing is nothing
pub moved_free : (at : ℕ → ℕ) (r : Ref) → moved at r ≡ Free → r ≡ Free
moved_free at Free e = refl
moved_free at (Cell cell) e = absurd (cc)
moved_free at (Node node base) e = absurd (cc)
moved_free at (Number pair) e = absurd (cc)
moved_free at (Half bits) e = absurd (cc)

pub moved_half : (at : ℕ → ℕ) (r : Ref) → is_half (moved at r) ≡ is_half r
moved_half at Free = refl
moved_half at (Cell cell) = refl
moved_half at (Node node base) = refl
moved_half at (Number pair) = refl
moved_half at (Half bits) = refl

pub moved_bits : (at : ℕ → ℕ) (r : Ref) → bits_of (moved at r) ≡ bits_of r
moved_bits at Free = refl
moved_bits at (Cell cell) = refl
moved_bits at (Node node base) = refl
moved_bits at (Number pair) = refl
moved_bits at (Half bits) = refl

-- what is moved to a cell is a cell, and so on
pub from_cell : (at : ℕ → ℕ) (r : Ref) (cell : ℕ) → Cell cell ≡ moved at r → (c : ℕ) × (r ≡ Cell c) × (cell ≡ at c)
from_cell at Free cell e = absurd (cc)
from_cell at (Cell c) cell e = (c, refl, cc)
from_cell at (Node node base) cell e = absurd (cc)
from_cell at (Number pair) cell e = absurd (cc)
from_cell at (Half bits) cell e = absurd (cc)

pub from_node : (at : ℕ → ℕ) (r : Ref) (node : NodeNo) (base : ℕ) → Node node base ≡ moved at r
    → (b : ℕ) × (r ≡ Node node b) × (base ≡ at b)
from_node at Free node base e = absurd (cc)
from_node at (Cell cell) node base e = absurd (cc)
from_node at (Node n b) node base e = (b, (cc), cc)
from_node at (Number pair) node base e = absurd (cc)
from_node at (Half bits) node base e = absurd (cc)

pub from_number : (at : ℕ → ℕ) (r : Ref) (pair : ℕ) → Number pair ≡ moved at r → (p : ℕ) × (r ≡ Number p) × (pair ≡ at p)
from_number at Free pair e = absurd (cc)
from_number at (Cell cell) pair e = absurd (cc)
from_number at (Node node base) pair e = absurd (cc)
from_number at (Number p) pair e = (p, refl, cc)
from_number at (Half bits) pair e = absurd (cc)

-- ---- Rows

module _ (P : NamedProgram) (at : ℕ → ℕ) (part whole : List Ref) (m : IsPartOf P at part whole) where
  -- A place within the part is one within the whole row,
  pub within_whole : (p : ℕ) → p < length part → at p < length whole
  within_whole p low =
      let h = m.rises p (length part + 0) (omega arith) in
      let e = m.beyond 0 in
      omega arith

  -- and the other way round.
  pub within_part : (p : ℕ) → at p < length whole → p < length part
  within_part p low = falls_back at m.rises p (length part) (
      let same : at (length part + 0) ≡ at (length part) = ap at (omega arith) in
      let e = m.beyond 0 in
      omega arith)

  -- The part is no longer.
  pub no_longer : length part ≤ length whole
  no_longer = let h = no_lower at m.rises (length part + 0) in let e = m.beyond 0 in omega arith

  -- The one word is free or a half where the other is.
  pub free_in_part : (p : ℕ) → word_at whole (at p) ≡ Free → word_at part p ≡ Free
  free_in_part p e = moved_free at (word_at part p) (sym (m.words p) ∙ e)

  pub free_in_whole : (p : ℕ) → word_at part p ≡ Free → word_at whole (at p) ≡ Free
  free_in_whole p e = m.words p ∙ ap (moved at) e

  pub same_half : (p : ℕ) → is_half (word_at whole (at p)) ≡ is_half (word_at part p)
  same_half p = ap is_half (m.words p) ∙ moved_half at (word_at part p)
