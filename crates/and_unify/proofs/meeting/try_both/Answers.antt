use Rattle.and_cells.proofs.Chains.{reads_nothing}
use Rattle.and_unify.proofs.MeetingSteps.{alike_here, apart_here, either_half, free_left, free_right, goes_on}
use Rattle.and_unify.proofs.meeting.try_both.Goals as goal

pub returns-in-Half-clause-apart : goal.returns-in-Half-clause-apart
returns-in-Half-clause-apart g c = λ p q is.
    let s = g.C.Cells.seen c.args.cells.now in
    apart_here g.C.Cells.program c.args.one c.args.other p q s s (cc) (cc) (reads_nothing s)
    (either_half g.C.Cells.program s c.args.one c.args.other (c.case_of.ensures.half c.in-Half.is))

pub returns-in-OneCell-clause-same : goal.returns-in-OneCell-clause-same
returns-in-OneCell-clause-same g c = λ is.
    let one_cell = c.case_of.ensures.one_cell c.in-OneCell.is in
    alike_here g.C.Cells.program c.args.one c.args.other (g.C.Cells.seen c.args.cells.now) one_cell.0 one_cell.1

pub returns-in-Won-clause-bound : goal.returns-in-Won-clause-bound
returns-in-Won-clause-bound g c = λ cell is.
    free_left g.C.Cells.program c.args.one c.args.other c.in-SetLeft.cell cell (g.C.Cells.seen c.args.cells.now) (g.C.Cells.seen c.bind.new.self)
    (c.case_of.ensures.left c.in-SetLeft.cell c.in-SetLeft.is) c.requires.one_in_range c.requires.other_in_range c.requires.other_written
    (c.bind.ensures.won c.in-Won.is) (cc)

pub returns-in-Already-clause-left_is : goal.returns-in-Already-clause-left_is
returns-in-Already-clause-left_is g c = λ r is.
    goes_on g.C.Cells.program c.args.one c.in-Already.set r c.in-SetLeft.cell (g.C.Cells.seen c.args.cells.now) (g.C.Cells.seen c.bind.new.self)
    (c.case_of.ensures.left c.in-SetLeft.cell c.in-SetLeft.is).is (c.bind.ensures.already c.in-Already.set c.in-Already.is) (cc)

pub returns-in-Won-bind-clause-bound : goal.returns-in-Won-bind-clause-bound
returns-in-Won-bind-clause-bound g c = λ cell is.
    free_right g.C.Cells.program c.args.one c.args.other c.in-SetRight.cell cell (g.C.Cells.seen c.args.cells.now) (g.C.Cells.seen c.bind-in-SetRight.new.self)
    (c.case_of.ensures.right c.in-SetRight.cell c.in-SetRight.is) c.requires.other_in_range c.requires.one_in_range c.requires.one_written
    (c.bind-in-SetRight.ensures.won c.in-Won-bind.is) (cc)

pub returns-in-Already-bind-clause-right_is : goal.returns-in-Already-bind-clause-right_is
returns-in-Already-bind-clause-right_is g c = λ r is.
    goes_on g.C.Cells.program c.args.other c.in-Already-bind.set r c.in-SetRight.cell (g.C.Cells.seen c.args.cells.now)
    (g.C.Cells.seen c.bind-in-SetRight.new.self)
    (c.case_of.ensures.right c.in-SetRight.cell c.in-SetRight.is).is (c.bind-in-SetRight.ensures.already c.in-Already-bind.set c.in-Already-bind.is) (cc)

pub returns-in-Compare-clause-apart : goal.returns-in-Compare-clause-apart
returns-in-Compare-clause-apart g c = λ p q is. c.compare.ensures.apart p q (cc)

pub returns-in-Compare-clause-structures : goal.returns-in-Compare-clause-structures
returns-in-Compare-clause-structures g c = λ p q is. c.compare.ensures.structures p q (cc)
