use Rattle.std.proofs.Common.{◌≡◌, ◌<◌, ◌*◌, ◌++◌, take, All}
use Rattle.and_store.specs.Left.{left_numbers, waiters_hung, numbered}
use Rattle.and_store.proofs.store.Store.push_left.Given as goal

abbrev pub invariant-loop-i : goal.invariant-loop-i
invariant-loop-i g l =
    (l.left.items ≡ l.fn.left.items ++ left_numbers l.marks (waiters_hung (numbered l.number (take l.i l.passes-2))))
    × All (λ w. w < l.self.about.seats * l.self.about.waiters) (waiters_hung (numbered l.number (take l.i l.passes-2)))
