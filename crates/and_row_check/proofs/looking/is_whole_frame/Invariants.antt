use Rattle.std.proofs.Common.{ℕ, ◌+◌, ◌<◌, ◌≡◌, false}
use Rattle.and_cells.specs.Seen.{word_at}
use Rattle.and_model.specs.Store.{is_half}
use Rattle.and_row_check.proofs.looking.is_whole_frame.Given as goal

abbrev pub invariant-loop-variable : goal.invariant-loop-variable
invariant-loop-variable l = (k : ℕ) → k < l.variable → is_half (word_at l.cells (l.frame.base + 1 + k)) ≡ false
