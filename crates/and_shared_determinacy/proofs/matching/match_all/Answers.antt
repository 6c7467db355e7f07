use Rattle.std.proofs.Common.{◌∙◌, ◌≤◌, refl, arith}
use Rattle.and_cells.proofs.Chains.{keeps_more, reads_keeps, reads_nothing}
use Rattle.and_shared_determinacy.proofs.MatchSteps.{matched_nothing, pair_there, matched_on, matched_never}
use Rattle.and_shared_determinacy.proofs.matching.match_all.Goals as goal

pub loop-next-init : goal.loop-next-init
loop-next-init g c =
    let s = g.C.Cells.seen c.args.cells.now in record {
      over = refl;
      grew = g.met.C.Cells.grew_nothing c.args.cells.now;
      keeps = reads_keeps s s (reads_nothing s);
      ready = c.requires.pairs;
      matched = matched_nothing g.C.Cells.program c.args.pairs.now s;
      fuel = omega arith;
    }

pub returns-then-next-len-clause-same : goal.returns-then-next-len-clause-same
returns-then-next-len-clause-same g c = λ is w t are learnt asked.
    let both = c.loop-next.invariant.matched w t are learnt asked in
    both.0

pub meet-requires-clause-left : goal.meet-requires-clause-left
meet-requires-clause-left g c =
    let both = c.loop-next.invariant.ready c.at-pair.result.now (pair_there c.loop-next.pairs c.loop-next.next c.at-pair.result.now c.at-pair.ensures) in
    both.0

pub meet-requires-clause-right : goal.meet-requires-clause-right
meet-requires-clause-right g c =
    let both = c.loop-next.invariant.ready c.at-pair.result.now (pair_there c.loop-next.pairs c.loop-next.next c.at-pair.result.now c.at-pair.ensures) in
    both.1

pub meet-requires-clause-pairs : goal.meet-requires-clause-pairs
meet-requires-clause-pairs g c = c.loop-next.invariant.ready

pub loop-next-preserved : goal.loop-next-preserved
loop-next-preserved g c =
    let i = c.loop-next.invariant in
    let old = g.C.Cells.seen c.args.cells.now in
    let now = g.C.Cells.seen c.loop-next.cells in
    let new = g.C.Cells.seen c.meet.new.cells in record {
      over = c.meet.ensures.over ∙ i.over;
      grew = g.met.C.Cells.grew_on c.args.cells.now c.loop-next.cells c.meet.new.cells i.grew c.meet.ensures.grew;
      keeps = keeps_more old now new i.keeps c.meet.ensures.keeps;
      ready = c.meet.ensures.pairs c.in-On.is;
      matched = matched_on g.C.Cells.program c.args.pairs.now old now new c.meet.ensures.keeps c.loop-next.pairs c.meet.new.pairs c.at-pair.result.now
          (pair_there c.loop-next.pairs c.loop-next.next c.at-pair.result.now c.at-pair.ensures) i.matched (c.meet.ensures.on c.in-On.is);
      fuel = let less : c.loop-next.fuel ≤ c.args.fuel.now = i.fuel in omega arith;
    }

pub returns-in-Apart-clause-grew : goal.returns-in-Apart-clause-grew
returns-in-Apart-clause-grew g c = g.met.C.Cells.grew_on c.args.cells.now c.loop-next.cells c.meet.new.cells c.loop-next.invariant.grew c.meet.ensures.grew

pub returns-in-Apart-clause-keeps : goal.returns-in-Apart-clause-keeps
returns-in-Apart-clause-keeps g c =
    keeps_more (g.C.Cells.seen c.args.cells.now) (g.C.Cells.seen c.loop-next.cells) (g.C.Cells.seen c.meet.new.cells) c.loop-next.invariant.keeps
    c.meet.ensures.keeps

pub returns-in-Apart-clause-apart : goal.returns-in-Apart-clause-apart
returns-in-Apart-clause-apart g c = λ is.
    matched_never g.C.Cells.program c.args.pairs.now (g.C.Cells.seen c.args.cells.now) (g.C.Cells.seen c.loop-next.cells) (g.C.Cells.seen c.meet.new.cells)
    c.meet.ensures.keeps
    c.loop-next.pairs c.meet.new.pairs c.at-pair.result.now (pair_there c.loop-next.pairs c.loop-next.next c.at-pair.result.now c.at-pair.ensures)
    c.loop-next.invariant.matched
    (c.meet.ensures.apart c.in-Apart.is)

pub returns-in-Memory-clause-grew : goal.returns-in-Memory-clause-grew
returns-in-Memory-clause-grew g c = g.met.C.Cells.grew_on c.args.cells.now c.loop-next.cells c.meet.new.cells c.loop-next.invariant.grew c.meet.ensures.grew

pub returns-in-Memory-clause-keeps : goal.returns-in-Memory-clause-keeps
returns-in-Memory-clause-keeps g c =
    keeps_more (g.C.Cells.seen c.args.cells.now) (g.C.Cells.seen c.loop-next.cells) (g.C.Cells.seen c.meet.new.cells) c.loop-next.invariant.keeps
    c.meet.ensures.keeps
