use Rattle.std.proofs.Common.{sym, subst}
use Rattle.and_circles.specs.Marked.{Listed}
use Rattle.and_circles.specs.Walks.{IsRested}
use Rattle.and_circles.proofs.Resting.{rests_marked}
use Rattle.and_circles.proofs.walk.Walk.note.Goals as goal

pub returns-then-has_ended-clause-rested : goal.returns-then-has_ended-clause-rested
returns-then-has_ended-clause-rested g c =
    subst (λ (marks : Listed). IsRested g.N.Naming.program c.args.cells.now (record c.args.self.now { marks = marks })) (sym c.set.ensures)
    (rests_marked g.N.Naming.program c.args.cells.now c.args.self.now c.args.cell c.requires.rested c.requires.in_row (c.requires.ends c.if-has_ended.true))
