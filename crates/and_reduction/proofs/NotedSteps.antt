-- What the steps of a branch set.
use Rattle.std.proofs.Common.{ℕ, ℤ, suc, ◌≡◌, inl, inr, List, [], ◌∷◌, length, sym, ap, ◌∙◌, subst, arith}
use Rattle.std.specs.Prelude.{Contains}
use Rattle.std.proofs.lemmas.List.Elements.{All-contains}
use Rattle.and_model.specs.declared.reference.Ref.{Ref}
use Rattle.and_model.specs.declared.reference.Ref.TheVariants.{Free}
use Rattle.and_laws.proofs.Ordered.{contains_first, contains_more, contains_cases, contains_none}
use Rattle.and_cells.specs.Ranges.{NamedProgram}
use Rattle.and_cells.proofs.Chains.{reads_nothing}
use Rattle.and_cells.specs.Rows.{OnlySet, plain}
use Rattle.and_cells.specs.Seen.{word_at}
use Rattle.and_branch_laws.specs.Settling.{IsWritten, widened}
use Rattle.and_branch_laws.proofs.Rows.{widened_words}
use Rattle.and_unify.specs.Setting.{HaveBeenSet}
use Rattle.and_unify.specs.Settling.{Settles}
use Rattle.and_unify.specs.declared.pairs.Pair.{Pair}
use Rattle.and_unify.specs.declared.settling.Settled.{Settled as Answer}
use Rattle.and_unify.specs.declared.settling.Settled.TheVariants.{Memory}
use Rattle.and_guards.proofs.Listed.{among_or_not}
use Rattle.and_branch_laws.proofs.Widening.{widened_length}
use Rattle.and_step_laws.specs.Assigning.{IsFreePair}
use Rattle.and_reduction.specs.Trails.{Noted, KeepsNoted, AreNoted}
use Rattle.and_reduction.proofs.Noting.{step_noted, none_noted, both_noted}
use Rattle.and_step_laws.proofs.Numbers.{one_of_pair}

-- a frame was put behind the row
frame_noted : (n : Noted) (row wide : List Ref) (by : ℕ) → wide ≡ widened row by → KeepsNoted n n row wide
frame_noted n row wide by is = step_noted n n [] row wide (none_noted n) record {
  longer = let long = widened_length row by in let same = ap length is in omega arith;
  free = λ cell c low. absurd (contains_none cell c);
  others = λ place low. inl (ap (λ (r : List Ref). word_at r place) is ∙ widened_words row by place);
}

-- A frame was put behind the row, and pairs were settled in it.
pub framed_noted : (old new : Noted) (row wide after : List Ref) (by : ℕ) → wide ≡ widened row by → KeepsNoted old new wide after
    → KeepsNoted old new row after
framed_noted old new row wide after by is settled = both_noted old old new row wide after (frame_noted old row wide by is) settled

-- Pairs were settled.
pub settling_noted : (old new : Noted) (cells : List ℕ) (before after : List Ref) → HaveBeenSet before after cells → AreNoted old new cells
    → KeepsNoted old new before after
settling_noted old new cells before after set are = step_noted old new cells before after are record {
  longer = let same = set.words in omega arith;
  free = λ cell c low. All-contains (λ (x : ℕ). word_at before x ≡ Free) cells cell set.were_free c;
  others = λ place low. elim (among_or_not cells place) [ inl c ↦ inr c | inr none ↦ inl (set.others place none) ];
}

-- A number was written into a free pair.
written_only : (P : NamedProgram) (row new : List Ref) (pair : ℕ) (z : ℤ) → IsFreePair P row pair → IsWritten row new pair z
    → OnlySet (pair ∷ suc pair ∷ []) row new
written_only P row new pair z free written = record {
  longer = let long = written.long in omega arith;
  free = λ cell c low. elim (contains_cases pair cell (suc pair ∷ []) c) [
    | inl e ↦ ap (word_at row) e ∙ free.high_free
    | inr i ↦ elim (contains_cases (suc pair) cell [] i) [
      | inl e ↦ ap (word_at row) e ∙ free.low_free
      | inr i ↦ absurd (contains_none cell i)
    ]
  ];
  others = λ place low. elim (one_of_pair pair place) [
    | inl this ↦ inr (elim this [
      | inl e ↦ subst (Contains (pair ∷ suc pair ∷ [])) (sym e) (contains_first pair (suc pair ∷ []))
      | inr e ↦ subst (Contains (pair ∷ suc pair ∷ [])) (sym e)
          (contains_more pair (suc pair) (suc pair ∷ []) (contains_first (suc pair) []))
    ])
    | inr other ↦ inl (written.others place other.0 other.1)
  ];
}

writing_noted : (P : NamedProgram) (old new : Noted) (row after : List Ref) (pair next : ℕ) (z : ℤ) → next ≡ suc pair
    → IsFreePair P row pair
    → IsWritten row after pair z → AreNoted old new (pair ∷ next ∷ []) → KeepsNoted old new row after
writing_noted P old new row after pair next z is free written are =
    step_noted old new (pair ∷ suc pair ∷ []) row after
    (subst (λ (n : ℕ). AreNoted old new (pair ∷ n ∷ [])) is are)
    (written_only P row after pair z free written)

-- It was written, and settled with a node.
pub assigning_noted : (P : NamedProgram) (old mid new : Noted) (row written after : List Ref) (pair next : ℕ) (z : ℤ) → next ≡ suc pair
    → IsFreePair P row pair
    → IsWritten row written pair z → AreNoted old mid (pair ∷ next ∷ []) → KeepsNoted mid new written after → KeepsNoted old new row after
assigning_noted P old mid new row written after pair next z is free wrote are settled =
    both_noted old mid new row written after (writing_noted P old mid row written pair next z is free wrote are) settled

-- What came to a settling that could not be noted.
pub settles_less : (P : NamedProgram) (old new : List Ref) (pairs : List Pair) (answer : Answer) → Settles P old new pairs answer
    → Settles P old new pairs Memory
settles_less P old new pairs answer s = record {
  solved = λ e. absurd (cc);
  settled = λ e. absurd (cc);
  no_solution = λ e. absurd (cc);
  keeps = s.keeps;
  halves = s.halves;
}

-- What comes to nothing for want of memory.
pub nothing_settled : (P : NamedProgram) (row : List Ref) (pairs : List Pair) → Settles P row row pairs Memory
nothing_settled P row pairs =
    let reads = reads_nothing (plain row) in record {
      solved = λ e. absurd (cc);
      settled = λ e. absurd (cc);
      no_solution = λ e. absurd (cc);
      keeps = record { knows = reads.keeps; known = (reads.learnt, reads.gains); missed = reads.missed; words = reads.words };
      halves = λ cell half. half;
    }
