use Rattle.std.specs.Prelude.{All, take}
use Rattle.and_unify.specs.Settling.{EndsFrom}
use Rattle.and_heads.proofs.ending.all_end.Given as goal

abbrev pub invariant-loop-place : goal.invariant-loop-place
invariant-loop-place g l = All (EndsFrom g.N.Naming.program l.cells l.floor) (take l.place l.bound)
