use Rattle.std.proofs.Common.{◌≡◌, ◌≤◌, ◌+◌, ◌++◌, length, reverse, drop, vec_len, vec_capacity}
use Rattle.and_pending.proofs.filling.move_all.Given as goal

abbrev pub invariant-loop-place : goal.invariant-loop-place
invariant-loop-place l =
    (l.place ≤ length l.from.items) × (l.to.items ≡ l.initial.to.items ++ reverse (drop l.place l.from.items))
    × (vec_len l.to + l.place ≤ vec_capacity l.to)

abbrev pub decreases-loop-place : goal.decreases-loop-place
decreases-loop-place l = l.place
