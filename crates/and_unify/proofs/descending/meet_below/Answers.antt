use Rattle.std.specs.Prelude.{◌++◌}
use Rattle.and_unify.specs.Running.{arguments_of_both}
use Rattle.and_unify.proofs.DescentRuns.{fit_from, fit_join, arguments_fit, runs_fit, range_of_fit, written_of_fit, comes_after}
use Rattle.and_unify.proofs.descending.meet_below.Goals as goal

pub meet_listed-requires-clause-in_range : goal.meet_listed-requires-clause-in_range
meet_listed-requires-clause-in_range g c =
    let P = g.C.Cells.program in
    let old = g.C.Cells.seen c.args.cells.now in
    let mid = g.C.Cells.seen c.meet_arguments.new.cells in
    let all = arguments_of_both P c.args.both in
    let fit = fit_join P old all c.args.list.now (arguments_fit P old c.args.both c.requires.falls c.requires.shape)
    (fit_from P old c.args.list.now c.requires.in_range c.requires.written) in
    range_of_fit P mid c.meet_arguments.new.list
    (runs_fit P old (all ++ c.args.list.now) c.args.bound.now.items mid c.meet_arguments.new.list c.meet_arguments.new.bound.items c.requires.falls
    c.in-Done.ensures.comes fit)

pub meet_listed-requires-clause-written : goal.meet_listed-requires-clause-written
meet_listed-requires-clause-written g c =
    let P = g.C.Cells.program in
    let old = g.C.Cells.seen c.args.cells.now in
    let mid = g.C.Cells.seen c.meet_arguments.new.cells in
    let all = arguments_of_both P c.args.both in
    let fit = fit_join P old all c.args.list.now (arguments_fit P old c.args.both c.requires.falls c.requires.shape)
    (fit_from P old c.args.list.now c.requires.in_range c.requires.written) in
    written_of_fit P mid c.meet_arguments.new.list
    (runs_fit P old (all ++ c.args.list.now) c.args.bound.now.items mid c.meet_arguments.new.list c.meet_arguments.new.bound.items c.requires.falls
    c.in-Done.ensures.comes fit)

pub returns-in-Done-clause-comes : goal.returns-in-Done-clause-comes
returns-in-Done-clause-comes g c =
    let P = g.C.Cells.program in
    comes_after P (g.C.Cells.seen c.args.cells.now) (g.C.Cells.seen c.meet_arguments.new.cells) (g.C.Cells.seen c.meet_listed.new.cells)
    (arguments_of_both P c.args.both ++ c.args.list.now)
    c.meet_arguments.new.list c.meet_listed.new.list c.args.bound.now.items c.meet_arguments.new.bound.items c.meet_listed.new.bound.items c.meet_listed.result
    c.in-Done.ensures.comes c.meet_listed.ensures.comes
