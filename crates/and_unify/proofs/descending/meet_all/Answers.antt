use Rattle.std.proofs.Common.{◌++◌, subst, ◌∙◌}
use Rattle.and_unify.specs.Running.{arguments_of_both, ComesTo}
use Rattle.and_unify.proofs.DescentRuns.{fit_from, fit_behind, runs_fit, range_of_fit, written_of_fit, comes_after}
use Rattle.and_unify.proofs.descending.meet_all.Goals as goal

pub loop-turn-init : goal.loop-turn-init
loop-turn-init g c = record {
  over = c.meet_listed-came.ensures.over;
  grew = c.meet_listed-came.ensures.grew;
  comes = c.meet_listed-came.ensures.comes;
  empty = c.meet_listed-came.ensures.empty;
}

pub meet_below-came-requires-clause-shape : goal.meet_below-came-requires-clause-shape
meet_below-came-requires-clause-shape g c =
    let P = g.C.Cells.program in
    let old = g.C.Cells.seen c.args.cells.now in
    let s = g.C.Cells.seen c.loop-turn.cells in
    let comes = subst (ComesTo P old s c.args.pairs.now c.loop-turn.pairs c.args.bound.now.items c.loop-turn.bound.items) c.in-Onward.is
    c.loop-turn.invariant.comes in
    comes.0

pub meet_below-came-requires-clause-in_range : goal.meet_below-came-requires-clause-in_range
meet_below-came-requires-clause-in_range g c =
    let P = g.C.Cells.program in
    let old = g.C.Cells.seen c.args.cells.now in
    let s = g.C.Cells.seen c.loop-turn.cells in
    let comes = subst (ComesTo P old s c.args.pairs.now c.loop-turn.pairs c.args.bound.now.items c.loop-turn.bound.items) c.in-Onward.is
    c.loop-turn.invariant.comes in
    let all = arguments_of_both P c.in-Onward.both in
    let fit = runs_fit P old c.args.pairs.now c.args.bound.now.items s (all ++ c.loop-turn.pairs) c.loop-turn.bound.items c.requires.falls comes.1
    (fit_from P old c.args.pairs.now c.requires.in_range c.requires.written) in
    range_of_fit P s c.loop-turn.pairs (fit_behind P s all c.loop-turn.pairs fit)

pub meet_below-came-requires-clause-written : goal.meet_below-came-requires-clause-written
meet_below-came-requires-clause-written g c =
    let P = g.C.Cells.program in
    let old = g.C.Cells.seen c.args.cells.now in
    let s = g.C.Cells.seen c.loop-turn.cells in
    let comes = subst (ComesTo P old s c.args.pairs.now c.loop-turn.pairs c.args.bound.now.items c.loop-turn.bound.items) c.in-Onward.is
    c.loop-turn.invariant.comes in
    let all = arguments_of_both P c.in-Onward.both in
    let fit = runs_fit P old c.args.pairs.now c.args.bound.now.items s (all ++ c.loop-turn.pairs) c.loop-turn.bound.items c.requires.falls comes.1
    (fit_from P old c.args.pairs.now c.requires.in_range c.requires.written) in
    written_of_fit P s c.loop-turn.pairs (fit_behind P s all c.loop-turn.pairs fit)

pub loop-turn-preserved : goal.loop-turn-preserved
loop-turn-preserved g c =
    let P = g.C.Cells.program in
    let old = g.C.Cells.seen c.args.cells.now in
    let s = g.C.Cells.seen c.loop-turn.cells in
    let comes = subst (ComesTo P old s c.args.pairs.now c.loop-turn.pairs c.args.bound.now.items c.loop-turn.bound.items) c.in-Onward.is
    c.loop-turn.invariant.comes in
    let all = arguments_of_both P c.in-Onward.both in
    record {
      over = c.meet_below-came.ensures.over ∙ c.loop-turn.invariant.over;
      grew = g.met.C.Cells.grew_on c.args.cells.now c.loop-turn.cells c.meet_below-came.new.cells c.loop-turn.invariant.grew c.meet_below-came.ensures.grew;
      comes = comes_after P old s (g.C.Cells.seen c.meet_below-came.new.cells) c.args.pairs.now (all ++ c.loop-turn.pairs) c.meet_below-came.new.list
          c.args.bound.now.items c.loop-turn.bound.items
          c.meet_below-came.new.bound.items c.meet_below-came.result comes.1 c.meet_below-came.ensures.comes;
      empty = c.meet_below-came.ensures.empty;
    }
