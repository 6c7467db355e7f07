-- What a walk over the words of a row shows of it.
use Rattle.std.proofs.Common.{ℕ, zero, suc, ◌+◌, ◌≡◌, ◌≢◌, ◌<◌, ◌≤◌, ◌⊎◌, List, [], ◌∷◌, length, get_or, All}
use Rattle.std.proofs.Common.{refl, sym, ◌∙◌, subst, inl, inr, arith}
use Rattle.std.proofs.lemmas.List.Elements.{All-map}
use Rattle.and_model.specs.Terms.{Path, variables_of}
use Rattle.and_model.specs.declared.limits.TheConstants.{MAX_WORDS}
use Rattle.and_model.specs.declared.numbers.NodeNo.{NodeNo}
use Rattle.and_model.specs.declared.reference.Ref.{Ref}
use Rattle.and_model.specs.declared.reference.Ref.TheVariants.{Free, Node, Number}
use Rattle.and_program.specs.Skeletons.{node_term}
use Rattle.and_cells.specs.Ranges.{NamedProgram, CanHold}
use Rattle.and_cells.specs.Seen.{word_at}
use Rattle.and_model.specs.declared.goal.Frame.{Frame}
use Rattle.and_row_check.specs.Places.{AreBelow, IsInPlace, IsVariableCell, IsWhole, IsWholeFrame, NamesVariables}
use Rattle.and_row_check.proofs.Loops.{each_next}

pub names_by_span : (P : NamedProgram) (frames : List Frame) (node : NodeNo) (base span : ℕ) → AreBelow span (node_term P.skeleton.nodes node.0)
    → ((k : ℕ) → k < span → IsVariableCell P.program frames (base + 1 + k)) → NamesVariables P frames (Node node base)
names_by_span P frames node base span below cells =
    let vars : List (Path × ℕ) = variables_of (node_term P.skeleton.nodes node.0) in
    All-map (IsVariableCell P.program frames) (λ (v : Path × ℕ). base + 1 + v.1) vars (λ k d within. cells (get_or vars k d).1 (below k d within))

-- both words of the pair that is named are set
abbrev pub IsWritten : List Ref → (place : ℕ) → Type 0
IsWritten row place = (pair : ℕ) → word_at row place ≡ Number pair → (word_at row pair ≢ Free) × (word_at row (suc pair) ≢ Free)

-- what was seen of the words before a place
pub record Looked (P : NamedProgram) (frames : List Frame) (row : List Ref) (place : ℕ) : Type 0 where
  pub stands : (p : ℕ) → p < place → CanHold P (length row) p (word_at row p)
  pub written : (p : ℕ) → p < place → IsWritten row p
  pub in_place : (p : ℕ) → p < place → IsInPlace P frames p (word_at row p)

pub none_looked : (P : NamedProgram) (frames : List Frame) (row : List Ref) → Looked P frames row 0
none_looked P frames row = record {
  stands = λ p below. absurd (omega (arith, below));
  written = λ p below. absurd (omega (arith, below));
  in_place = λ p below. absurd (omega (arith, below));
}

pub one_looked : (P : NamedProgram) (frames : List Frame) (row : List Ref) (place : ℕ) → Looked P frames row place
    → CanHold P (length row) place (word_at row place) → IsWritten row place → IsInPlace P frames place (word_at row place)
    → Looked P frames row (place + 1)
one_looked P frames row place looked stands written in_place = record {
  stands = each_next (λ (p : ℕ). CanHold P (length row) p (word_at row p)) place looked.stands stands;
  written = each_next (IsWritten row) place looked.written written;
  in_place = each_next (λ (p : ℕ). IsInPlace P frames p (word_at row p)) place looked.in_place in_place;
}

-- A word is within the row, or is free.
past_or_within : (row : List Ref) (place : ℕ) → (place < length row) ⊎ (word_at row place ≡ Free)
past_or_within [] place = inr refl
past_or_within (r ∷ row) zero = inl (omega arith)
past_or_within (r ∷ row) (suc place) = elim (past_or_within row place) [
  | inl within ↦ inl (omega (arith, within))
  | inr free ↦ inr free
]

pub all_looked : (P : NamedProgram) (frames : List Frame) (row : List Ref) (place : ℕ) → Looked P frames row place → length row ≤ place
    → All (IsWholeFrame P.program row) frames → length row ≤ MAX_WORDS → IsWhole P frames row
all_looked P frames row place looked over whole short = record {
  sound = record {
    fits = λ p. elim (past_or_within row p) [
      | inl within ↦ looked.stands p (omega (arith, within, over))
      | inr free ↦ subst (CanHold P (length row) p) (sym free) tt
    ];
    written = λ p pair is. elim (past_or_within row p) [
      | inl within ↦ looked.written p (omega (arith, within, over)) pair is
      | inr free ↦ absurd (let clash : Free ≡ Number pair = sym free ∙ is in cc)
    ];
    short = short;
  };
  whole = whole;
  in_place = λ p within. looked.in_place p (omega (arith, within, over));
}
