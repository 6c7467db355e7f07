-- Rows that name frames which were moved whole.
use Rattle.std.proofs.Common.{ℕ, suc, ◌+◌, ◌-◌, ◌≡◌, ◌≤◌, List, length, sym, ap, ◌∙◌, subst, inl, inr, arith, Contains}
use Rattle.and_model.specs.Store.{Frame}
use Rattle.and_model.specs.declared.numbers.NodeNo.{NodeNo}
use Rattle.and_model.specs.declared.reference.Ref.{Ref}
use Rattle.and_model.specs.declared.reference.Ref.TheVariants.{Free, Cell, Node, Number, Half}
use Rattle.and_cells.specs.Ranges.{NamedProgram}
use Rattle.and_cells.specs.Seen.{word_at}
use Rattle.and_moved_laws.specs.Parts.{moved, IsTogether, IsPartOf, NamesTogether}
use Rattle.and_moved_laws.specs.KeptFrames.{IsInFrame, NamesFrame, NamesFrames, MovesWhole, frame_moved}
use Rattle.and_moved_laws.proofs.Filling.{origin}

module _ (P : NamedProgram) (at : ℕ → ℕ) (frames : List Frame) (move : (f : Frame) → Contains frames f → MovesWhole at f) where
  -- a place of a frame, by how far it is from the frame's base
  place_moved : (f : Frame) → Contains frames f → (p : ℕ) → IsInFrame p f → at p ≡ at f.base + (p - f.base)
  place_moved f h p i =
      let low = i.0 in
      let less = i.1 in
      let is : f.base + (p - f.base) ≡ p = omega arith in
      ap at (sym is) ∙ move f h (p - f.base) (omega arith)

  -- What is named in such a frame was moved together.
  pub frame_together : (r : Ref) → NamesFrame P frames r → IsTogether P at r
  frame_together Free n = tt
  frame_together (Cell cell) n = tt
  frame_together (Node node base) n = λ v c.
      let i = n.4 v c in
      let e = n.2 in
      let one = place_moved n.0 n.1 (base + 1 + v.1) i in
      let same : at n.0.base ≡ at base = ap at e in
      omega arith
  frame_together (Number pair) n =
      let i = n.2 in
      let one = place_moved n.0 n.1 pair i in
      let other = place_moved n.0 n.1 (suc pair) n.3 in
      omega arith
  frame_together (Half bits) n = tt

  base_within : (words : ℕ) → ((f : Frame) → Contains frames f → f.base ≤ words) → (r : Ref) → NamesFrame P frames r
      → (node : NodeNo) (base : ℕ) → r ≡ Node node base → base ≤ words
  base_within words low Free n node base e = absurd (cc)
  base_within words low (Cell cell) n node base e = absurd (cc)
  base_within words low (Node other b) n node base e =
      let same : b ≡ base = cc in
      let l = low n.0 n.1 in
      let is = n.2 in
      omega arith
  base_within words low (Number pair) n node base e = absurd (cc)
  base_within words low (Half bits) n node base e = absurd (cc)

  pub names_together : (row : List Ref) → ((f : Frame) → Contains frames f → f.base ≤ length row) → NamesFrames P frames row
      → NamesTogether P at row
  names_together row low names = record {
    within = λ place node base e. base_within (length row) low (word_at row place) (names place) node base e;
    together = λ place. frame_together (word_at row place) (names place);
  }

  -- What a moved reference names lies in the frames where they were moved to.
  names_moved : (all : List Frame) → ((f : Frame) → Contains frames f → Contains all (frame_moved at f)) → (r : Ref)
      → NamesFrame P frames r → NamesFrame P all (moved at r)
  names_moved all there Free n = tt
  names_moved all there (Cell cell) n = tt
  names_moved all there (Node node base) n =
      let e = n.2 in
      let same : at n.0.base ≡ at base = ap at e in
      let i = n.3 in (
        frame_moved at n.0,
        there n.0 n.1,
        same,
        (omega arith, (let w = i.1 in omega arith)),
        λ v c. (let j = n.4 v c in (omega arith, (let w = j.1 in omega arith))),
      )
  names_moved all there (Number pair) n =
      let i = n.2 in
      let low = i.0 in
      let ends = n.3.1 in
      let one = place_moved n.0 n.1 pair i in
      (frame_moved at n.0, there n.0 n.1, (omega arith, omega arith), (omega arith, omega arith))
  names_moved all there (Half bits) n = tt

  -- So the whole row names frames where it did before, and the part does now.
  pub names_later : (all : List Frame) (new whole later : List Ref) → ((f : Frame) → Contains frames f → Contains all (frame_moved at f))
      → IsPartOf P at new later → ((p : ℕ) → ((c : ℕ) → at c ≡ p → ⊥) → word_at later p ≡ word_at whole p)
      → NamesFrames P frames new → NamesFrames P all whole → NamesFrames P all later
  names_later all new whole later there m others names was p = elim (origin at m.rises p) [
    | inl found ↦ subst (λ (x : ℕ). NamesFrame P all (word_at later x)) found.1
        (subst (λ (r : Ref). NamesFrame P all r) (sym (m.words found.0)) (names_moved all there (word_at new found.0) (names found.0)))
    | inr nowhere ↦ subst (λ (r : Ref). NamesFrame P all r) (sym (others p nowhere)) (was p)
  ]

-- A frame that is put behind the part is put behind the whole row, as it is.
pub behind_whole : (P : NamedProgram) (at : ℕ → ℕ) (part whole : List Ref) (weight : ℕ) → IsPartOf P at part whole
    → MovesWhole at (record { base = length part; weight = weight })
behind_whole P at part whole weight m n less =
    let there = m.beyond n in
    let begins = m.beyond 0 in
    let same : at (length part + 0) ≡ at (length part) = ap at (omega arith) in
    omega arith
