use Rattle.std.proofs.Common.{◌+◌, drop, sym, subst, arith}
use Rattle.std.specs.Prelude.{All}
use Rattle.std.proofs.lemmas.List.Elements.{All-nil}
use Rattle.and_cells.specs.Rows.{plain}
use Rattle.and_heads.specs.Parts.{HasShape, arguments_of_parts}
use Rattle.and_heads.proofs.Meeting.{first_steps, first_breaks, first_given_up}
use Rattle.and_heads.proofs.Pairing.{none_met, all_met, pair_turn}
use Rattle.and_heads.proofs.Parting.{shapes_behind}
use Rattle.and_heads.proofs.entering.enter_pairs.Goals as goal

pub loop-place-init : goal.loop-place-init
loop-place-init g c =
    let P = g.N.Naming.program in
    let old = plain c.args.cells.now in
    record {
      shapes = subst (All (HasShape P old.words)) (sym c.requires.none) (All-nil (HasShape P old.words));
      runs = none_met P old old c.args.pairs.now c.args.bound.now.items c.args.bound.now.items c.args.parts.now.items c.requires.none;
      owed = λ owed. owed;
    }

pub enter_pair-requires-clause-in_range : goal.enter_pair-requires-clause-in_range
enter_pair-requires-clause-in_range g c =
    let t = pair_turn g.N.Naming.program (plain c.args.cells.now) (plain c.loop-place.cells) c.args.pairs.now c.args.bound.now.items c.loop-place.bound.items
    (arguments_of_parts g.N.Naming.program c.loop-place.parts.items) c.at.result.now c.loop-place.place c.at.ensures c.loop-place.invariant.runs
    c.requires.falls c.requires.in_range c.requires.written in
    (t.fit.left_in_range, t.fit.right_in_range)

pub enter_pair-requires-clause-written : goal.enter_pair-requires-clause-written
enter_pair-requires-clause-written g c =
    let t = pair_turn g.N.Naming.program (plain c.args.cells.now) (plain c.loop-place.cells) c.args.pairs.now c.args.bound.now.items c.loop-place.bound.items
    (arguments_of_parts g.N.Naming.program c.loop-place.parts.items) c.at.result.now c.loop-place.place c.at.ensures c.loop-place.invariant.runs
    c.requires.falls c.requires.in_range c.requires.written in
    (t.fit.left_written, t.fit.right_written)

pub loop-place-preserved : goal.loop-place-preserved
loop-place-preserved g c =
    let P = g.N.Naming.program in
    let old = plain c.args.cells.now in
    let longer = c.enter_pair.new.parts.items in
    let meets = c.in-Done.ensures.meets in
    let t = pair_turn g.N.Naming.program (plain c.args.cells.now) (plain c.loop-place.cells) c.args.pairs.now c.args.bound.now.items c.loop-place.bound.items
    (arguments_of_parts g.N.Naming.program c.loop-place.parts.items) c.at.result.now c.loop-place.place c.at.ensures c.loop-place.invariant.runs
    c.requires.falls c.requires.in_range c.requires.written in
    record {
      shapes = shapes_behind P old.words c.loop-place.parts.items meets.more longer meets.gains c.loop-place.invariant.shapes
          (subst (λ n. All (HasShape P n) meets.more) t.words meets.shapes);
      runs = first_steps P old (plain c.loop-place.cells) (plain c.enter_pair.new.cells) _ _ _ _ c.at.result.now
          (drop (c.loop-place.place + 1) c.args.pairs.now) c.loop-place.parts.items longer t.runs meets;
      owed = λ owed. c.enter_pair.ensures.owed (c.loop-place.invariant.owed owed);
    }

pub returns-in-Apart-clause-comes : goal.returns-in-Apart-clause-comes
returns-in-Apart-clause-comes g c =
    let t = pair_turn g.N.Naming.program (plain c.args.cells.now) (plain c.loop-place.cells) c.args.pairs.now c.args.bound.now.items c.loop-place.bound.items
    (arguments_of_parts g.N.Naming.program c.loop-place.parts.items) c.at.result.now c.loop-place.place c.at.ensures c.loop-place.invariant.runs
    c.requires.falls c.requires.in_range c.requires.written in
    first_breaks g.N.Naming.program (plain c.args.cells.now) (plain c.loop-place.cells) (plain c.enter_pair.new.cells) _ _ _ _ c.at.result.now
    (drop (c.loop-place.place + 1) c.args.pairs.now) c.loop-place.parts.items c.enter_pair.new.parts.items t.runs c.in-Apart.ensures.meets

pub returns-in-GivenUp-clause-comes : goal.returns-in-GivenUp-clause-comes
returns-in-GivenUp-clause-comes g c =
    let t = pair_turn g.N.Naming.program (plain c.args.cells.now) (plain c.loop-place.cells) c.args.pairs.now c.args.bound.now.items c.loop-place.bound.items
    (arguments_of_parts g.N.Naming.program c.loop-place.parts.items) c.at.result.now c.loop-place.place c.at.ensures c.loop-place.invariant.runs
    c.requires.falls c.requires.in_range c.requires.written in
    first_given_up g.N.Naming.program (plain c.args.cells.now) (plain c.loop-place.cells) (plain c.enter_pair.new.cells) _ _ _ _ c.at.result.now
    (drop (c.loop-place.place + 1) c.args.pairs.now) c.loop-place.parts.items c.enter_pair.new.parts.items t.runs c.in-GivenUp.ensures.meets

pub returns-clause-comes : goal.returns-clause-comes
returns-clause-comes g c =
    let P = g.N.Naming.program in
    let past = c.loop-place-test.false in
    all_met P (plain c.args.cells.now) (plain c.loop-place.cells) c.args.pairs.now c.args.bound.now.items c.loop-place.bound.items
    (arguments_of_parts P c.loop-place.parts.items) c.loop-place.place (let end = c.len-place-end.ensures in omega arith) c.loop-place.invariant.runs

pub returns-in-Apart-clause-owed : goal.returns-in-Apart-clause-owed
returns-in-Apart-clause-owed g c = λ owed. c.enter_pair.ensures.owed (c.loop-place.invariant.owed owed)

pub returns-in-GivenUp-clause-owed : goal.returns-in-GivenUp-clause-owed
returns-in-GivenUp-clause-owed g c = λ owed. c.enter_pair.ensures.owed (c.loop-place.invariant.owed owed)

pub returns-clause-owed : goal.returns-clause-owed
returns-clause-owed g c = c.loop-place.invariant.owed
