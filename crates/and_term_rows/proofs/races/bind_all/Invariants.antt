use Rattle.std.proofs.Common.{◌≡◌}
use Rattle.and_term_rows.proofs.races.bind_all.Given as goal

abbrev pub invariant-loop-cell : goal.invariant-loop-cell
invariant-loop-cell g l = l.pass.store ≡ l.store
