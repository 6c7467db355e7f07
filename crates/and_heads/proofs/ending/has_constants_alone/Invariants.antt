use Rattle.std.specs.Prelude.{ℕ, List, ◌<◌, false, get_or}
use Rattle.and_model.specs.declared.reference.Ref.{Ref}
use Rattle.and_cells.specs.Parts.{named, part_at}
use Rattle.and_cells.specs.Ends.{Ends}
use Rattle.and_heads.proofs.ending.has_constants_alone.Given as goal

abbrev pub invariant-loop-place : goal.invariant-loop-place
invariant-loop-place l =
    (k : ℕ) → k < l.place → (row : List Ref) (floor base : ℕ)
    → Ends (named l.fn.loaded) row floor false (part_at (named l.fn.loaded) base (get_or l.nodes k (record { 0 = 0 })).0)
