use Rattle.std.proofs.Common.{◌≡◌, List, [], ◌∷◌, ◌++◌, length, refl, ap, ◌∙◌, arith}
use Rattle.std.proofs.lemmas.List.{length_push}
use Rattle.and_unify.specs.declared.pairs.Pair.{Pair}
use Rattle.and_unify.specs.declared.descending.Plainly.TheVariants as plainly
use Rattle.and_unify.specs.Running.{start, stepped}
use Rattle.and_unify.proofs.DescentRuns.{listed_turn, comes_of_first}
use Rattle.and_unify.proofs.descending.meet_listed.Goals as goal

pub loop-pair-init : goal.loop-pair-init
loop-pair-init g c = record { over = refl; grew = g.met.C.Cells.grew_nothing c.args.cells.now; runs = start }

pub meet_pair-requires-clause-in_range : goal.meet_pair-requires-clause-in_range
meet_pair-requires-clause-in_range g c =
    let t = listed_turn g.C.Cells.program (g.C.Cells.seen c.args.cells.now) (g.C.Cells.seen c.loop-pair.cells) c.args.list.now c.loop-pair.list c.pop.new.self
    _ _ c.in-Some.pair c.requires.falls c.requires.in_range c.requires.written (c.pop.ensures.some c.in-Some.pair c.in-Some.is) c.loop-pair.invariant.runs in
    (t.fit.left_in_range, t.fit.right_in_range)

pub meet_pair-requires-clause-written : goal.meet_pair-requires-clause-written
meet_pair-requires-clause-written g c =
    let t = listed_turn g.C.Cells.program (g.C.Cells.seen c.args.cells.now) (g.C.Cells.seen c.loop-pair.cells) c.args.list.now c.loop-pair.list c.pop.new.self
    _ _ c.in-Some.pair c.requires.falls c.requires.in_range c.requires.written (c.pop.ensures.some c.in-Some.pair c.in-Some.is) c.loop-pair.invariant.runs in
    (t.fit.left_written, t.fit.right_written)

pub loop-pair-smaller : goal.loop-pair-smaller
loop-pair-smaller g c =
    let is : length c.loop-pair.list ≡ length (c.pop.new.self ++ c.in-Some.pair ∷ []) =
    ap (λ (l : List Pair). length l) (c.pop.ensures.some c.in-Some.pair c.in-Some.is) in
    let more = length_push c.pop.new.self c.in-Some.pair in
    omega arith

pub loop-pair-preserved : goal.loop-pair-preserved
loop-pair-preserved g c =
    let t = listed_turn g.C.Cells.program (g.C.Cells.seen c.args.cells.now) (g.C.Cells.seen c.loop-pair.cells) c.args.list.now c.loop-pair.list c.pop.new.self
    _ _ c.in-Some.pair c.requires.falls c.requires.in_range c.requires.written (c.pop.ensures.some c.in-Some.pair c.in-Some.is) c.loop-pair.invariant.runs in
    record {
      over = c.meet_pair.ensures.over ∙ c.loop-pair.invariant.over;
      grew = g.met.C.Cells.grew_on c.args.cells.now c.loop-pair.cells c.meet_pair.new.cells c.loop-pair.invariant.grew c.meet_pair.ensures.grew;
      runs = stepped (g.C.Cells.seen c.loop-pair.cells) (g.C.Cells.seen c.meet_pair.new.cells) c.in-Some.pair c.pop.new.self c.pop.new.self
          c.loop-pair.bound.items c.meet_pair.new.bound.items t.runs (c.in-Done.ensures.meets c.pop.new.self);
    }

pub returns-in-Onward-clause-comes : goal.returns-in-Onward-clause-comes
returns-in-Onward-clause-comes g c =
    let t = listed_turn g.C.Cells.program (g.C.Cells.seen c.args.cells.now) (g.C.Cells.seen c.loop-pair.cells) c.args.list.now c.loop-pair.list c.pop.new.self
    _ _ c.in-Some.pair c.requires.falls c.requires.in_range c.requires.written (c.pop.ensures.some c.in-Some.pair c.in-Some.is) c.loop-pair.invariant.runs in
    comes_of_first g.C.Cells.program (g.C.Cells.seen c.args.cells.now) (g.C.Cells.seen c.loop-pair.cells) (g.C.Cells.seen c.meet_pair.new.cells) _ _ _ _ _
    c.in-Some.pair (plainly.Onward c.in-Onward.both) t.runs c.in-Onward.ensures.meets

pub returns-in-Apart-clause-comes : goal.returns-in-Apart-clause-comes
returns-in-Apart-clause-comes g c =
    let t = listed_turn g.C.Cells.program (g.C.Cells.seen c.args.cells.now) (g.C.Cells.seen c.loop-pair.cells) c.args.list.now c.loop-pair.list c.pop.new.self
    _ _ c.in-Some.pair c.requires.falls c.requires.in_range c.requires.written (c.pop.ensures.some c.in-Some.pair c.in-Some.is) c.loop-pair.invariant.runs in
    comes_of_first g.C.Cells.program (g.C.Cells.seen c.args.cells.now) (g.C.Cells.seen c.loop-pair.cells) (g.C.Cells.seen c.meet_pair.new.cells) _ _ _ _ _
    c.in-Some.pair (plainly.Apart c.in-Apart.left c.in-Apart.right) t.runs c.in-Apart.ensures.meets

pub returns-in-Memory-clause-comes : goal.returns-in-Memory-clause-comes
returns-in-Memory-clause-comes g c =
    let t = listed_turn g.C.Cells.program (g.C.Cells.seen c.args.cells.now) (g.C.Cells.seen c.loop-pair.cells) c.args.list.now c.loop-pair.list c.pop.new.self
    _ _ c.in-Some.pair c.requires.falls c.requires.in_range c.requires.written (c.pop.ensures.some c.in-Some.pair c.in-Some.is) c.loop-pair.invariant.runs in
    comes_of_first g.C.Cells.program (g.C.Cells.seen c.args.cells.now) (g.C.Cells.seen c.loop-pair.cells) (g.C.Cells.seen c.meet_pair.new.cells) _ _ _ _ _
    c.in-Some.pair plainly.Memory t.runs c.in-Memory.ensures.meets
