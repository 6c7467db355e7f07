use Rattle.std.proofs.Common.{◌≡◌, ◌≤◌, map, take, length, vec_capacity}
use Rattle.std.specs.Slots.{slots_items}
use Rattle.and_store.specs.Left.{goal_at}
use Rattle.and_store.proofs.leaving.goals_of.Given as goal

abbrev pub invariant-loop-i : goal.invariant-loop-i
invariant-loop-i l =
    (l.goals.items ≡ map (λ w. goal_at (slots_items l.table.words) l.place w) (take l.i l.left)) × (length l.left ≤ vec_capacity l.goals)
