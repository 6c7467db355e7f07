use Rattle.std.proofs.Common.{refl}
use Rattle.and_unify.specs.Turns.{sets}
use Rattle.and_unify.proofs.DescentRuns.{meets_after}
use Rattle.and_unify.proofs.descending.meet_argument.Goals as goal

pub returns-then-takes-clause-meets : goal.returns-then-takes-clause-meets
returns-then-takes-clause-meets g c = λ list links. let (cell, met, gains) = c.takes.ensures.sets c.if-takes.true in (links, sets cell met refl refl gains)

pub returns-clause-meets : goal.returns-clause-meets
returns-clause-meets g c =
    meets_after g.C.Cells.program c.args.pair (g.C.Cells.seen c.args.cells.now) (g.C.Cells.seen c.takes.new.cells) (g.C.Cells.seen c.meet_pair.new.cells)
    c.args.bound.now.items c.takes.new.bound.items c.meet_pair.new.bound.items c.meet_pair.result (c.takes.ensures.reads c.if-takes.false)
    c.meet_pair.ensures.meets
