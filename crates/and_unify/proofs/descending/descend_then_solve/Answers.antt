use Rattle.std.proofs.Common.{◌∙◌}
use Rattle.and_cells.proofs.Chains.{keeps_more}
use Rattle.and_unify.proofs.DescentThen.{lists_then, sets_then, spends_then, spends_nothing, unifies_then}
use Rattle.and_unify.proofs.descending.descend_then_solve.Goals as goal

pub returns-in-Over-clause-keeps : goal.returns-in-Over-clause-keeps
returns-in-Over-clause-keeps g c = c.descend.ensures.comes.keeps

pub returns-in-Over-clause-sets : goal.returns-in-Over-clause-sets
returns-in-Over-clause-sets g c = c.descend.ensures.comes.sets

pub returns-in-Over-clause-bound : goal.returns-in-Over-clause-bound
returns-in-Over-clause-bound g c = c.descend.ensures.comes.lists

pub returns-in-Over-clause-unifies : goal.returns-in-Over-clause-unifies
returns-in-Over-clause-unifies g c = (c.descend.ensures.comes.over c.in-Over.unified c.in-Over.is).0

pub returns-in-Over-clause-spends : goal.returns-in-Over-clause-spends
returns-in-Over-clause-spends g c =
    spends_nothing g.C.Cells.program (g.C.Cells.seen c.descend.new.cells) c.args.pairs.now c.descend.new.pairs c.args.fuel.now c.in-Over.unified
    (c.descend.ensures.comes.over c.in-Over.unified c.in-Over.is).1

pub solve-requires-clause-in_range : goal.solve-requires-clause-in_range
solve-requires-clause-in_range g c = (c.descend.ensures.comes.not_over c.in-Left.is).in_range.0

pub solve-requires-clause-written : goal.solve-requires-clause-written
solve-requires-clause-written g c = (c.descend.ensures.comes.not_over c.in-Left.is).in_range.1

pub returns-in-Left-clause-over : goal.returns-in-Left-clause-over
returns-in-Left-clause-over g c = c.solve.ensures.over ∙ c.descend.ensures.over

pub returns-in-Left-clause-grew : goal.returns-in-Left-clause-grew
returns-in-Left-clause-grew g c = g.met.C.Cells.grew_on c.args.cells.now c.descend.new.cells c.solve.new.cells c.descend.ensures.grew c.solve.ensures.grew

pub returns-in-Left-clause-keeps : goal.returns-in-Left-clause-keeps
returns-in-Left-clause-keeps g c =
    keeps_more (g.C.Cells.seen c.args.cells.now) (g.C.Cells.seen c.descend.new.cells) (g.C.Cells.seen c.solve.new.cells) c.descend.ensures.comes.keeps
    c.solve.ensures.keeps

pub returns-in-Left-clause-unifies : goal.returns-in-Left-clause-unifies
returns-in-Left-clause-unifies g c =
    unifies_then g.C.Cells.program (g.C.Cells.seen c.args.cells.now) (g.C.Cells.seen c.descend.new.cells) (g.C.Cells.seen c.solve.new.cells) c.args.pairs.now
    c.descend.new.pairs c.solve.new.pairs c.solve.result
    c.requires.in_range c.solve.ensures.keeps (c.descend.ensures.comes.not_over c.in-Left.is) c.solve.ensures.unifies c.solve.ensures.suffice

pub returns-in-Left-clause-spends : goal.returns-in-Left-clause-spends
returns-in-Left-clause-spends g c =
    spends_then g.C.Cells.program (g.C.Cells.seen c.args.cells.now) (g.C.Cells.seen c.descend.new.cells) (g.C.Cells.seen c.solve.new.cells) c.args.pairs.now
    c.descend.new.pairs c.solve.new.pairs
    c.args.fuel.now c.solve.new.fuel c.solve.result c.solve.ensures.keeps (c.descend.ensures.comes.not_over c.in-Left.is) c.solve.ensures.spends

pub returns-in-Left-clause-sets : goal.returns-in-Left-clause-sets
returns-in-Left-clause-sets g c =
    sets_then g.C.Cells.program (g.C.Cells.seen c.args.cells.now) (g.C.Cells.seen c.descend.new.cells) (g.C.Cells.seen c.solve.new.cells) c.args.pairs.now
    c.descend.new.pairs c.descend.new.bound.items
    c.solve.new.bound.items (c.descend.ensures.comes.not_over c.in-Left.is) c.solve.ensures.bound c.descend.ensures.comes.sets c.solve.ensures.sets

pub returns-in-Left-clause-bound : goal.returns-in-Left-clause-bound
returns-in-Left-clause-bound g c =
    lists_then (g.C.Cells.seen c.args.cells.now) (g.C.Cells.seen c.descend.new.cells) (g.C.Cells.seen c.solve.new.cells) c.args.bound.now.items
    c.descend.new.bound.items c.solve.new.bound.items
    c.descend.ensures.comes.keeps c.solve.ensures.keeps c.descend.ensures.comes.lists c.solve.ensures.bound
