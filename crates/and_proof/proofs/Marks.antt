-- Where a proof part begins.
use Rattle.std.proofs.Common.{ℕ, ◌≡◌, ◌+◌, ◌≤◌, [], ◌++◌, length, drop, sym, ◌∙◌, subst, inl, inr, arith}
use Rattle.std.proofs.Math.ListN.{drop_of_length-le}
use Rattle.std.proofs.lemmas.Bool.{cases_lt}
use Rattle.and_model.specs.Lines.{Bytes}
use Rattle.and_proof.specs.Documents.{mark, IsMark}

-- No mark begins at the end or behind it.
pub none_at_end : (bytes : Bytes) (place : ℕ) → length bytes ≤ place → IsMark bytes place → ⊥
none_at_end bytes place past m =
    let none_is : drop place bytes ≡ [] = drop_of_length-le bytes past in
    let both : [] ≡ mark ++ m.rest = sym none_is ∙ m.reads in cc

-- Where none begins from the next place on, nor at this one, none begins from this one on.
pub none_before : (bytes : Bytes) (place : ℕ) → ((other : ℕ) → place + 1 ≤ other → IsMark bytes other → ⊥) → (IsMark bytes place → ⊥)
    → (other : ℕ) → place ≤ other → IsMark bytes other → ⊥
none_before bytes place behind here other l m = elim (cases_lt place other) [
  | inl below ↦ behind other (omega arith) m
  | inr past ↦ let same : other ≡ place = omega arith in here (subst (IsMark bytes) same m)
]
