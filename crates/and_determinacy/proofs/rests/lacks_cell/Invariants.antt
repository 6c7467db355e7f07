use Rattle.std.proofs.Common.{ℕ, ◌≢◌, take}
use Rattle.std.specs.Prelude.{All}
use Rattle.and_determinacy.proofs.rests.lacks_cell.Given as goal

abbrev pub invariant-loop-other : goal.invariant-loop-other
invariant-loop-other l = All (λ (other : ℕ). other ≢ l.cell) (take l.other-index l.others)
