use Rattle.std.proofs.Common.{ℕ, ◌≢◌, ◌<◌, get_or}
use Rattle.and_term_rows.proofs.Glimpses.{nothing}
use Rattle.and_term_rows.proofs.late.LateCells.recall.Given as goal

abbrev pub invariant-loop-k : goal.invariant-loop-k
invariant-loop-k g l = (i : ℕ) → i < l.k-index → (get_or l.self.known.items i nothing).0 ≢ l.place
