use Rattle.std.proofs.Common.{ℕ, ◌≡◌, ◌<◌, slice_index_or}
use Rattle.and_io.proofs.memory.is_listed.Given as goal

-- no place before has the number
abbrev pub invariant-searching : goal.invariant-searching
invariant-searching l = (before : ℕ) → before < l.place → slice_index_or l.calls before l.number ≡ l.number → ⊥
