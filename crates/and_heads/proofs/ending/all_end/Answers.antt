use Rattle.std.proofs.Common.{arith}
use Rattle.std.proofs.lemmas.List.Elements.{All-more}
use Rattle.and_unify.specs.Settling.{EndsFrom}
use Rattle.and_heads.proofs.ending.all_end.Goals as goal

pub loop-place-preserved : goal.loop-place-preserved
loop-place-preserved g c =
    All-more (EndsFrom g.N.Naming.program c.args.cells.now c.args.floor) c.args.bound.now c.loop-place.place 0 (omega arith) c.loop-place.invariant
    (c.ends_from.ensures c.if-not-ends_from.false)
