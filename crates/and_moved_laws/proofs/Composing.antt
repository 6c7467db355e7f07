-- Rows that are part of themselves, and parts of parts.
use Rattle.std.proofs.Common.{ℕ, ◌+◌, ◌≡◌, List, length, refl, sym, ap, ◌∙◌, subst, arith}
use Rattle.and_model.specs.declared.reference.Ref.{Ref}
use Rattle.and_model.specs.declared.reference.Ref.TheVariants.{Free, Cell, Node, Number, Half}
use Rattle.and_cells.specs.Ranges.{NamedProgram}
use Rattle.and_cells.specs.Seen.{word_at}
use Rattle.and_branch_laws.specs.Settling.{widened}
use Rattle.and_branch_laws.proofs.Rows.{widened_words}
use Rattle.and_branch_laws.proofs.Widening.{widened_length}
use Rattle.and_moved_laws.specs.Parts.{moved, IsTogether, IsPartOf}

-- ---- A row and itself

-- no place is moved
abbrev pub staying : ℕ → ℕ
staying p = p

pub stays : (r : Ref) → r ≡ moved staying r
stays Free = refl
stays (Cell cell) = refl
stays (Node node base) = refl
stays (Number pair) = refl
stays (Half bits) = refl

stays_together : (P : NamedProgram) (r : Ref) → IsTogether P staying r
stays_together P Free = tt
stays_together P (Cell cell) = tt
stays_together P (Node node base) = λ v c. refl
stays_together P (Number pair) = refl
stays_together P (Half bits) = tt

pub part_of_itself : (P : NamedProgram) (row : List Ref) → IsPartOf P staying row row
part_of_itself P row = record {
  rises = λ p q low. low;
  beyond = λ k. refl;
  words = λ place. stays (word_at row place);
  together = λ place. stays_together P (word_at row place);
}

-- ---- A part of a part

module _ (P : NamedProgram) (inner outer : ℕ → ℕ) where
  -- moved by the one, and then by the other
  abbrev pub both : ℕ → ℕ
  both p = outer (inner p)

  pub moved_twice : (r : Ref) → moved outer (moved inner r) ≡ moved both r
  moved_twice Free = refl
  moved_twice (Cell cell) = refl
  moved_twice (Node node base) = refl
  moved_twice (Number pair) = refl
  moved_twice (Half bits) = refl

  pub together_twice : (r : Ref) → IsTogether P inner r → IsTogether P outer (moved inner r) → IsTogether P both r
  together_twice Free i o = tt
  together_twice (Cell cell) i o = tt
  together_twice (Node node base) i o = λ v c. ap outer (i v c) ∙ o v c
  together_twice (Number pair) i o = ap outer i ∙ o
  together_twice (Half bits) i o = tt

  pub part_of_part : (part between whole : List Ref) → IsPartOf P inner part between → IsPartOf P outer between whole
      → IsPartOf P both part whole
  part_of_part part between whole i o = record {
    rises = λ p q low. o.rises (inner p) (inner q) (i.rises p q low);
    beyond = λ k. ap outer (i.beyond k) ∙ o.beyond k;
    words = λ place. o.words (inner place) ∙ ap (moved outer) (i.words place) ∙ moved_twice (word_at part place);
    together = λ place. together_twice (word_at part place) (i.together place)
        (subst (λ (r : Ref). IsTogether P outer r) (i.words place) (o.together (inner place)));
  }

-- ---- Free words behind

-- Where both rows are widened alike, the one is still part of the other.
pub part_widened : (P : NamedProgram) (at : ℕ → ℕ) (part whole : List Ref) (by : ℕ) → IsPartOf P at part whole
    → IsPartOf P at (widened part by) (widened whole by)
part_widened P at part whole by m = record {
  rises = m.rises;
  beyond = λ k.
      let long : length (widened part by) ≡ length part + by = widened_length part by in
      let whole_long : length (widened whole by) ≡ length whole + by = widened_length whole by in
      let at_end : at (length part + (by + k)) ≡ length whole + (by + k) = m.beyond (by + k) in
      let same : at (length (widened part by) + k) ≡ at (length part + (by + k)) = ap at (omega arith) in
      omega arith;
  words = λ place. widened_words whole by (at place) ∙ m.words place ∙ ap (moved at) (sym (widened_words part by place));
  together = λ place. subst (λ (r : Ref). IsTogether P at r) (sym (widened_words part by place)) (m.together place);
}
