use Rattle.std.proofs.Common.{ℕ, ◌<◌, false}
use Rattle.and_cells.specs.Ends.{Ends}
use Rattle.and_circles.specs.Following.{Puts, argument_part}
use Rattle.and_circles.proofs.following.split.Given as goal

abbrev pub invariant-loop-place : goal.invariant-loop-place
invariant-loop-place g l =
    Puts g.N.Naming.program l.cells l.floor
    ((k : ℕ) → 0 < k → k < l.place → Ends g.N.Naming.program l.cells l.floor false (argument_part g.N.Naming.program l.node l.base k))
    l.fn.visits.items l.visits.items
