use Rattle.std.specs.Prelude.{ℕ, ◌<◌, false}
use Rattle.and_cells.specs.Ends.{Ends}
use Rattle.and_circles.specs.Following.{argument_part}
use Rattle.and_heads.proofs.ending.parts_end.Given as goal

abbrev pub invariant-loop-place : goal.invariant-loop-place
invariant-loop-place g l =
    (k : ℕ) → k < l.place → Ends g.N.Naming.program l.cells l.floor false (argument_part g.N.Naming.program l.fn.node l.base k)
