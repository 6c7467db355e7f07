use Rattle.std.proofs.Common.{◌≡◌, ◌<◌, ◌*◌, All}
use Rattle.and_store.specs.Left.{left_numbers, waiters_hung, in_order}
use Rattle.and_store.proofs.store.Store.left_over.Given as goal

abbrev pub invariant-loop-number : goal.invariant-loop-number
invariant-loop-number g l =
    (l.left.items ≡ left_numbers l.marks.items (waiters_hung (in_order l.number l.passes)))
    × All (λ w. w < l.self.about.seats * l.self.about.waiters) (waiters_hung (in_order l.number l.passes))
