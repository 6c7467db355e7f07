use Rattle.std.proofs.Common.{◌++◌, [], arith}
use Rattle.std.proofs.lemmas.List.{nil_from_length}
use Rattle.and_cells.specs.Rows.{plain}
use Rattle.and_unify.specs.Running.{start, arguments_of_both}
use Rattle.and_unify.proofs.DescentRuns.{runs_then}
use Rattle.and_heads.specs.declared.entering.Entered.TheVariants.{Done, Apart, GivenUp}
use Rattle.and_heads.specs.Parts.{both_of, arguments_of_parts}
use Rattle.and_heads.proofs.Meeting.{parts_after}
use Rattle.and_heads.proofs.Parting.{part_turn, none_left}
use Rattle.and_heads.proofs.entering.enter_parts.Goals as goal

pub loop-turn-init : goal.loop-turn-init
loop-turn-init g c = record { shape = c.requires.shape; shapes = c.requires.shapes; runs = start; owed = λ owed. owed }

pub enter_arguments-requires-clause-shape : goal.enter_arguments-requires-clause-shape
enter_arguments-requires-clause-shape g c = c.loop-turn.invariant.shape

pub enter_arguments-requires-clause-shapes : goal.enter_arguments-requires-clause-shapes
enter_arguments-requires-clause-shapes g c = c.loop-turn.invariant.shapes

pub loop-turn-preserved : goal.loop-turn-preserved
loop-turn-preserved g c =
    let P = g.N.Naming.program in
    let mid = plain c.loop-turn.cells in
    let now = plain c.enter_arguments.new.cells in
    let t = part_turn P c.enter_arguments.new.parts.items c.pop.new.self.items c.in-Some.next c.in-Some.ensures.items mid now _ _ _
    (c.enter_arguments.ensures.shapes c.in-Done.is) c.in-Done.ensures.comes in
    record {
      shape = t.shape;
      shapes = t.shapes;
      runs = runs_then P (plain c.args.cells.now) mid _ _ _ _ now
          (arguments_of_both P (both_of c.in-Some.next) ++ arguments_of_parts P c.pop.new.self.items) c.enter_arguments.new.bound.items
          c.loop-turn.invariant.runs t.runs;
      owed = λ owed. c.enter_arguments.ensures.owed (c.loop-turn.invariant.owed owed);
    }

pub returns-in-None-clause-comes : goal.returns-in-None-clause-comes
returns-in-None-clause-comes g c =
    let P = g.N.Naming.program in
    let left = c.enter_arguments.new.parts in
    let none = nil_from_length left.items (omega (arith, left.ok.0, c.in-None.ensures.cases.0)) in
    parts_after P (plain c.args.cells.now) (plain c.loop-turn.cells) (plain c.enter_arguments.new.cells) _ _ [] _ _
    c.enter_arguments.new.bound.items Done c.loop-turn.invariant.runs
    (none_left P (plain c.loop-turn.cells) (plain c.enter_arguments.new.cells) _ left.items _ _ none c.in-Done.ensures.comes)

pub returns-in-Apart-clause-comes : goal.returns-in-Apart-clause-comes
returns-in-Apart-clause-comes g c =
    parts_after g.N.Naming.program (plain c.args.cells.now) (plain c.loop-turn.cells) (plain c.enter_arguments.new.cells) _ _ [] _ _
    c.enter_arguments.new.bound.items Apart c.loop-turn.invariant.runs c.in-Apart.ensures.comes

pub returns-in-GivenUp-clause-comes : goal.returns-in-GivenUp-clause-comes
returns-in-GivenUp-clause-comes g c =
    parts_after g.N.Naming.program (plain c.args.cells.now) (plain c.loop-turn.cells) (plain c.enter_arguments.new.cells) _ _ [] _ _
    c.enter_arguments.new.bound.items GivenUp c.loop-turn.invariant.runs c.in-GivenUp.ensures.comes

pub returns-in-Apart-clause-owed : goal.returns-in-Apart-clause-owed
returns-in-Apart-clause-owed g c = λ owed. c.enter_arguments.ensures.owed (c.loop-turn.invariant.owed owed)

pub returns-in-GivenUp-clause-owed : goal.returns-in-GivenUp-clause-owed
returns-in-GivenUp-clause-owed g c = λ owed. c.enter_arguments.ensures.owed (c.loop-turn.invariant.owed owed)

pub returns-in-None-clause-owed : goal.returns-in-None-clause-owed
returns-in-None-clause-owed g c = λ owed. c.enter_arguments.ensures.owed (c.loop-turn.invariant.owed owed)
