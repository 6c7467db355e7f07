use Rattle.and_shared_determinacy.proofs.MatchSteps.{same_on, half_never, leads_as, leads_back, set_can, set_below, ended_can, some_end}
use Rattle.and_shared_determinacy.proofs.matching.meet_ends.Goals as goal

pub case_of-requires : goal.case_of-requires
case_of-requires g c =
    let s = g.C.Cells.seen c.args.cells.now in
    (some_end g.C.Cells.program s.words c.args.one c.requires.one.0, some_end g.C.Cells.program s.words c.args.other c.requires.other.0)

pub returns-in-Half-clause-apart : goal.returns-in-Half-clause-apart
returns-in-Half-clause-apart g c = λ is.
    half_never g.C.Cells.program c.args.one c.args.other (g.C.Cells.seen c.args.cells.now) (c.case_of.ensures.half c.in-Half.is)

pub returns-in-OneCell-clause-on : goal.returns-in-OneCell-clause-on
returns-in-OneCell-clause-on g c = λ is. same_on g.C.Cells.program c.args.one c.args.other (g.C.Cells.seen c.args.cells.now) c.args.pairs.now

pub set-requires-clause-cell : goal.set-requires-clause-cell
set-requires-clause-cell g c =
    set_below g.C.Cells.program (g.C.Cells.seen c.args.cells.now) c.in-SetLeft.cell c.args.one c.args.other
    (c.case_of.ensures.left c.in-SetLeft.cell c.in-SetLeft.is) c.requires.one

pub set-requires-clause-to : goal.set-requires-clause-to
set-requires-clause-to g c =
    set_can g.C.Cells.program (g.C.Cells.seen c.args.cells.now) c.in-SetLeft.cell c.args.one c.args.other
    (c.case_of.ensures.left c.in-SetLeft.cell c.in-SetLeft.is) c.requires.other

pub returns-in-SetLeft-clause-on : goal.returns-in-SetLeft-clause-on
returns-in-SetLeft-clause-on g c = λ is.
    leads_as g.C.Cells.program c.in-SetLeft.cell c.args.one c.args.other (g.C.Cells.seen c.args.cells.now) (g.C.Cells.seen c.set.new.cells)
    c.args.pairs.now c.set.new.pairs
    (c.case_of.ensures.left c.in-SetLeft.cell c.in-SetLeft.is) (c.set.ensures.on is)

pub set-requires-in-SetRight-clause-cell : goal.set-requires-in-SetRight-clause-cell
set-requires-in-SetRight-clause-cell g c =
    set_below g.C.Cells.program (g.C.Cells.seen c.args.cells.now) c.in-SetRight.cell c.args.other c.args.one
    (c.case_of.ensures.right c.in-SetRight.cell c.in-SetRight.is) c.requires.other

pub set-requires-in-SetRight-clause-to : goal.set-requires-in-SetRight-clause-to
set-requires-in-SetRight-clause-to g c =
    set_can g.C.Cells.program (g.C.Cells.seen c.args.cells.now) c.in-SetRight.cell c.args.other c.args.one
    (c.case_of.ensures.right c.in-SetRight.cell c.in-SetRight.is) c.requires.one

pub returns-in-SetRight-clause-on : goal.returns-in-SetRight-clause-on
returns-in-SetRight-clause-on g c = λ is.
    let P = g.C.Cells.program in
    let old = g.C.Cells.seen c.args.cells.now in
    let new = g.C.Cells.seen c.set-in-SetRight.new.cells in
    leads_back P c.args.other c.args.one old new c.args.pairs.now c.set-in-SetRight.new.pairs
    (leads_as P c.in-SetRight.cell c.args.other c.args.one old new c.args.pairs.now c.set-in-SetRight.new.pairs
    (c.case_of.ensures.right c.in-SetRight.cell c.in-SetRight.is) (c.set-in-SetRight.ensures.on is))

pub compare-requires-clause-one : goal.compare-requires-clause-one
compare-requires-clause-one g c =
    ended_can g.C.Cells.program (g.C.Cells.seen c.args.cells.now) c.args.one (c.case_of.ensures.ends c.in-Compare.is).0 c.requires.one

pub compare-requires-clause-other : goal.compare-requires-clause-other
compare-requires-clause-other g c =
    ended_can g.C.Cells.program (g.C.Cells.seen c.args.cells.now) c.args.other (c.case_of.ensures.ends c.in-Compare.is).1 c.requires.other
