use Rattle.std.proofs.Common.{◌≡◌}
use Rattle.and_term_rows.proofs.stores.answers.Given as goal

abbrev pub invariant-loop-words : goal.invariant-loop-words
invariant-loop-words l = (l.first.store ≡ l.store) × (l.second.store ≡ l.store)
