use Rattle.std.proofs.Common.{sym, ap, arith}
use Rattle.and_model.specs.Store.{is_half}
use Rattle.and_model.specs.declared.reference.Ref.TheVariants.{Cell}
use Rattle.and_cells.specs.Ends
use Rattle.and_circles.proofs.Turning.{goes_past, goes_on, goes_to_half}
use Rattle.and_circles.proofs.walk.Walk.enter_new.Goals as goal

pub returns-in-Free-clause-goes : goal.returns-in-Free-clause-goes
returns-in-Free-clause-goes g c =
    goes_past g.N.Naming.program c.args.cells.now (Cell c.args.cell) c.args.self.now (λ root taking. Ends.free c.args.cell (sym c.in-Free.ensures.value))

pub returns-in-Half-clause-goes : goal.returns-in-Half-clause-goes
returns-in-Half-clause-goes g c = goes_past g.N.Naming.program c.args.cells.now (Cell c.args.cell) c.args.self.now
    (λ root taking. Ends.half c.args.cell c.if-self.true (ap is_half (sym c.in-Half.ensures.value)))

pub returns-in-Half-2-clause-goes : goal.returns-in-Half-2-clause-goes
returns-in-Half-2-clause-goes g c =
    goes_to_half g.N.Naming.program c.args.cells.now c.args.cell c.args.self.now (ap is_half (sym c.in-Half.ensures.value)) c.if-self.false

pub returns-in-Cell-clause-goes : goal.returns-in-Cell-clause-goes
returns-in-Cell-clause-goes g c =
    goes_on g.N.Naming.program c.args.cells.now c.args.cell c.word-word.result c.args.self.now c.follow.new.self c.follow.result c.follow.ensures.stays
    c.follow.ensures.opens c.follow.ensures.marks c.requires.unmarked (omega (arith, c.requires.taking.1.path.1, c.requires.taking.1.room))
    (sym c.word-word.ensures.value) (λ e. let is = c.in-Cell.is in cc) (ap is_half c.in-Cell.is)

pub returns-in-Node-clause-goes : goal.returns-in-Node-clause-goes
returns-in-Node-clause-goes g c =
    goes_on g.N.Naming.program c.args.cells.now c.args.cell c.word-word.result c.args.self.now c.follow-in-Node.new.self c.follow-in-Node.result
    c.follow-in-Node.ensures.stays c.follow-in-Node.ensures.opens c.follow-in-Node.ensures.marks c.requires.unmarked
    (omega (arith, c.requires.taking.1.path.1, c.requires.taking.1.room))
    (sym c.word-word.ensures.value) (λ e. let is = c.in-Node.is in cc) (ap is_half c.in-Node.is)

pub returns-in-Number-clause-goes : goal.returns-in-Number-clause-goes
returns-in-Number-clause-goes g c =
    goes_on g.N.Naming.program c.args.cells.now c.args.cell c.word-word.result c.args.self.now c.follow-in-Number.new.self c.follow-in-Number.result
    c.follow-in-Number.ensures.stays c.follow-in-Number.ensures.opens c.follow-in-Number.ensures.marks c.requires.unmarked
    (omega (arith, c.requires.taking.1.path.1, c.requires.taking.1.room))
    (sym c.word-word.ensures.value) (λ e. let is = c.in-Number.is in cc) (ap is_half c.in-Number.is)
