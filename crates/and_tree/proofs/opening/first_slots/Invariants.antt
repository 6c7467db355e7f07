use Rattle.std.proofs.Common.{◌≡◌, ◌*◌, ◌-◌, ◌≤◌, ◌∷◌, replicate, Some, None, vec_capacity}
use Rattle.and_tree.proofs.opening.first_slots.Given as goal

abbrev pub invariant-loop-cell : goal.invariant-loop-cell
invariant-loop-cell g l = (l.slots.items ≡ Some l.fn.root ∷ replicate (l._cell - 1) None) × (8 * l.teams ≤ vec_capacity l.slots)
