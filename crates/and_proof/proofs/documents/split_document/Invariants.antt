use Rattle.std.proofs.Common.{ℕ, ◌≤◌, length}
use Rattle.and_proof.specs.Documents.{IsMark}
use Rattle.and_proof.proofs.documents.split_document.Given as goal

abbrev pub invariant-loop-place : goal.invariant-loop-place
invariant-loop-place l = record {
  within : l.place ≤ length l.bytes;
  none_from : (other : ℕ) → l.place ≤ other → IsMark l.bytes other → ⊥;
}

abbrev pub decreases-loop-place : goal.decreases-loop-place
decreases-loop-place l = l.place
