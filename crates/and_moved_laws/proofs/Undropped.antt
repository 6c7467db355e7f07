-- A part of which nothing was dropped is its whole row.
use Rattle.std.proofs.Common.{ℕ, zero, suc, ◌+◌, ◌-◌, ◌≡◌, ◌<◌, ◌≤◌, List, [], ◌∷◌, length, map, refl, sym, ap, ◌∙◌, subst, inl, inr, arith}
use Rattle.std.proofs.lemmas.Bool.{cases_lt}
use Rattle.and_model.specs.Trees.{QueryTree, weight}
use Rattle.and_model.specs.Reductions.{Reduction}
use Rattle.and_model.specs.Stands.{Framed}
use Rattle.and_model.specs.Store.{Frame}
use Rattle.and_model.specs.declared.reference.Ref.{Ref}
use Rattle.and_cells.specs.Ranges.{NamedProgram}
use Rattle.and_cells.specs.Seen.{word_at}
use Rattle.and_branch_laws.specs.Kept.{Kept}
use Rattle.and_moved_laws.specs.Parts.{moved, IsPartOf, framed_moved}
use Rattle.and_moved_laws.specs.KeptParts.{PartKept}
use Rattle.and_moved_laws.proofs.Composing.{staying, stays}
use Rattle.and_moved_laws.proofs.KeptParts.{stays_framed}
use Rattle.and_moved_laws.proofs.Moving.{no_lower}

-- Rows of the same words are the same.
same_rows : (row other : List Ref) → length row ≡ length other → ((p : ℕ) → word_at row p ≡ word_at other p) → row ≡ other
same_rows [] [] long words = refl
same_rows [] (x ∷ other) long words = absurd (omega arith)
same_rows (x ∷ row) [] long words = absurd (omega arith)
same_rows (x ∷ row) (y ∷ other) long words =
    ap (λ (r : Ref). r ∷ row) (words 0) ∙ ap (λ (l : List Ref). y ∷ l) (same_rows row other (omega arith) (λ p. words (suc p)))

-- No places are moved together.
keeps_apart : (at : ℕ → ℕ) → ((p q : ℕ) → p < q → at p < at q) → (p n : ℕ) → at p + n ≤ at (p + n)
keeps_apart at rises p zero = let same : at (p + 0) ≡ at p = ap at (omega arith) in omega arith
keeps_apart at rises p (suc n) =
    let before = keeps_apart at rises p n in
    let l = rises (p + n) (p + suc n) (omega arith) in
    omega arith

module _ (P : NamedProgram) (at : ℕ → ℕ) (part whole : List Ref) (m : IsPartOf P at part whole) (long : length part ≡ length whole) where
  place_stays : (p : ℕ) → at p ≡ p
  place_stays p = elim (cases_lt p (length part)) [
    | inl inside ↦
        let low = no_lower at m.rises p in
        let high = keeps_apart at m.rises p (length part - p) in
        let ends = m.beyond 0 in
        let same : at (p + (length part - p)) ≡ at (length part + 0) = ap at (omega arith) in
        omega arith
    | inr behind ↦
        let there = m.beyond (p - length part) in
        let same : at (length part + (p - length part)) ≡ at p = ap at (omega arith) in
        omega arith
  ]

  all_stay : at ≡ staying
  all_stay = λ i p. place_stays p i

  row_is : whole ≡ part
  row_is = same_rows whole part (sym long) (λ p.
      ap (word_at whole) (sym (place_stays p)) ∙ m.words p ∙ ap (λ (f : ℕ → ℕ). moved f (word_at part p)) all_stay
      ∙ sym (stays (word_at part p)))

  goals_are : (kept : List Framed) → map (framed_moved at) kept ≡ kept
  goals_are kept = ap (λ (f : ℕ → ℕ). map (framed_moved f) kept) all_stay ∙ stays_framed kept

-- The branch keeps what one does that has all frames.
pub undropped_kept : (P : NamedProgram) (rs : List Reduction) (frames : List Frame) (part : List Ref) (kept : List Framed)
    (tree : QueryTree P.program) → PartKept P rs frames part kept tree → length part ≡ weight tree → Kept P rs part kept tree
undropped_kept P rs frames part kept tree k all =
    let w = k.keeps in
    let long : length part ≡ length k.whole = all ∙ sym w.long in
    subst (λ (row : List Ref). Kept P rs row kept tree) (row_is P k.at part k.whole k.is_part long)
    (subst (λ (l : List Framed). Kept P rs k.whole l tree) (goals_are P k.at part k.whole k.is_part long kept) k.keeps)
