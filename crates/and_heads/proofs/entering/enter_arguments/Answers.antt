use Rattle.std.proofs.Common.{◌+◌, ◌≤◌, ◌++◌, drop, refl, subst, arith}
use Rattle.std.specs.Prelude.{All}
use Rattle.and_cells.specs.Ranges.{NamedProgram}
use Rattle.and_cells.specs.Rows.{plain}
use Rattle.and_cells.specs.Parts.{named, part_at, IsStructure}
use Rattle.and_unify.specs.Running.{start, arguments_of_both}
use Rattle.and_unify.proofs.TurnArguments.{arguments_counted}
use Rattle.and_unify.proofs.DescentRuns.{last_argument}
use Rattle.and_heads.specs.Parts.{HasShape, both_of, arguments_of_parts}
use Rattle.and_heads.proofs.Comparing.{pair_of}
use Rattle.and_heads.proofs.Meeting.{first_steps, first_breaks, first_given_up}
use Rattle.and_heads.proofs.Parting.{shapes_behind}
use Rattle.and_heads.proofs.Placing.{node_in, as_many_nodes, node_there, right_there, read_turn}
use Rattle.and_heads.proofs.entering.enter_arguments.Goals as goal

pub loop-place-init : goal.loop-place-init
loop-place-init g c = record { shapes = c.requires.shapes; runs = start; owed = λ owed. owed }

pub resolve-right-requires-clause-there : goal.resolve-right-requires-clause-there
resolve-right-requires-clause-there g c =
    right_there g.N.Naming.program (named c.args.loaded.now) c.args.part c.arguments-lefts.result.now c.arguments-rights.result.now c.requires.program
    c.arguments-lefts.ensures c.arguments-rights.ensures _ c.loop-place.place c.requires.shape c.requires.falls c.loop-place-test.true

pub enter_argument-requires-clause-there : goal.enter_argument-requires-clause-there
enter_argument-requires-clause-there g c =
    node_there (named c.args.loaded.now) c.args.part.left c.arguments-lefts.result.now c.arguments-lefts.ensures c.loop-place.place c.loop-place-test.true
    g.N.Naming.program c.requires.program c.requires.falls c.requires.shape.left_in_range.0.there

pub enter_argument-requires-clause-fits : goal.enter_argument-requires-clause-fits
enter_argument-requires-clause-fits g c =
    let P = g.N.Naming.program in
    let t = read_turn P (named c.args.loaded.now) c.args.part c.arguments-lefts.result.now c.arguments-rights.result.now c.requires.program
    c.arguments-lefts.ensures c.arguments-rights.ensures (plain c.args.cells.now) (plain c.loop-place.cells) _ _ _ _ c.loop-place.place
    c.resolve-right.result c.requires.falls c.requires.shape c.loop-place-test.true c.resolve-right.ensures c.loop-place.invariant.runs in
    (t.fit.left_in_range, t.fit.right_in_range)

pub enter_argument-requires-clause-written : goal.enter_argument-requires-clause-written
enter_argument-requires-clause-written g c =
    let P = g.N.Naming.program in
    let t = read_turn P (named c.args.loaded.now) c.args.part c.arguments-lefts.result.now c.arguments-rights.result.now c.requires.program
    c.arguments-lefts.ensures c.arguments-rights.ensures (plain c.args.cells.now) (plain c.loop-place.cells) _ _ _ _ c.loop-place.place
    c.resolve-right.result c.requires.falls c.requires.shape c.loop-place-test.true c.resolve-right.ensures c.loop-place.invariant.runs in
    t.fit.left_written

pub loop-place-preserved : goal.loop-place-preserved
loop-place-preserved g c =
    let P = g.N.Naming.program in
    let old = plain c.args.cells.now in
    let longer = c.enter_argument.new.parts.items in
    let meets = c.in-Done.ensures.meets in
    let t = read_turn P (named c.args.loaded.now) c.args.part c.arguments-lefts.result.now c.arguments-rights.result.now c.requires.program
    c.arguments-lefts.ensures c.arguments-rights.ensures (plain c.args.cells.now) (plain c.loop-place.cells) _ _ _ _ c.loop-place.place
    c.resolve-right.result c.requires.falls c.requires.shape c.loop-place-test.true c.resolve-right.ensures c.loop-place.invariant.runs in
    record {
      shapes = shapes_behind P old.words c.loop-place.parts.items meets.more longer meets.gains c.loop-place.invariant.shapes
          (subst (λ n. All (HasShape P n) meets.more) t.words meets.shapes);
      runs = first_steps P old (plain c.loop-place.cells) (plain c.enter_argument.new.cells) _ _ _ _
          (pair_of (part_at (named c.args.loaded.now) c.args.part.left.base (node_in c.arguments-lefts.result.now c.loop-place.place).0) c.resolve-right.result)
          (drop (c.loop-place.place + 1) (arguments_of_both P (both_of c.args.part))) c.loop-place.parts.items longer t.runs meets;
      owed = λ owed. c.enter_argument.ensures.owed (c.loop-place.invariant.owed owed);
    }

pub returns-in-Apart-clause-comes : goal.returns-in-Apart-clause-comes
returns-in-Apart-clause-comes g c =
    let P = g.N.Naming.program in
    let t = read_turn P (named c.args.loaded.now) c.args.part c.arguments-lefts.result.now c.arguments-rights.result.now c.requires.program
    c.arguments-lefts.ensures c.arguments-rights.ensures (plain c.args.cells.now) (plain c.loop-place.cells) _ _ _ _ c.loop-place.place
    c.resolve-right.result c.requires.falls c.requires.shape c.loop-place-test.true c.resolve-right.ensures c.loop-place.invariant.runs in
    first_breaks P (plain c.args.cells.now) (plain c.loop-place.cells) (plain c.enter_argument.new.cells) _ _ _ _
    (pair_of (part_at (named c.args.loaded.now) c.args.part.left.base (node_in c.arguments-lefts.result.now c.loop-place.place).0) c.resolve-right.result)
    (drop (c.loop-place.place + 1) (arguments_of_both P (both_of c.args.part))) c.loop-place.parts.items c.enter_argument.new.parts.items
    t.runs c.in-Apart.ensures.meets

pub returns-in-GivenUp-clause-comes : goal.returns-in-GivenUp-clause-comes
returns-in-GivenUp-clause-comes g c =
    let P = g.N.Naming.program in
    let t = read_turn P (named c.args.loaded.now) c.args.part c.arguments-lefts.result.now c.arguments-rights.result.now c.requires.program
    c.arguments-lefts.ensures c.arguments-rights.ensures (plain c.args.cells.now) (plain c.loop-place.cells) _ _ _ _ c.loop-place.place
    c.resolve-right.result c.requires.falls c.requires.shape c.loop-place-test.true c.resolve-right.ensures c.loop-place.invariant.runs in
    first_given_up P (plain c.args.cells.now) (plain c.loop-place.cells) (plain c.enter_argument.new.cells) _ _ _ _
    (pair_of (part_at (named c.args.loaded.now) c.args.part.left.base (node_in c.arguments-lefts.result.now c.loop-place.place).0) c.resolve-right.result)
    (drop (c.loop-place.place + 1) (arguments_of_both P (both_of c.args.part))) c.loop-place.parts.items c.enter_argument.new.parts.items
    t.runs c.in-GivenUp.ensures.meets

pub returns-clause-comes : goal.returns-clause-comes
returns-clause-comes g c =
    let P = g.N.Naming.program in
    let Q = named c.args.loaded.now in
    let old = plain c.args.cells.now in
    let s = plain c.loop-place.cells in
    let both = both_of c.args.part in
    let todo = arguments_of_both P both ++ arguments_of_parts P c.args.parts.now.items in
    let shape = c.requires.shape in
    let is : IsStructure Q both.left shape.name shape.count =
    subst (λ (p : NamedProgram). IsStructure p both.left shape.name shape.count) c.requires.program shape.left_is in
    let one = arguments_counted Q both.left c.args.part.left.node c.args.part.left.base shape.name shape.count refl is in
    let many = as_many_nodes _ c.arguments-lefts.result.now c.arguments-lefts.ensures in
    let past : shape.count ≤ c.loop-place.place = let at = c.loop-place-test.false in omega arith in
    last_argument P old s todo (arguments_of_parts P c.loop-place.parts.items) c.args.bound.now.items c.loop-place.bound.items both shape.name
    shape.count c.loop-place.place
    shape.left_is past c.loop-place.invariant.runs

pub returns-in-Apart-clause-owed : goal.returns-in-Apart-clause-owed
returns-in-Apart-clause-owed g c = λ owed. c.enter_argument.ensures.owed (c.loop-place.invariant.owed owed)

pub returns-in-GivenUp-clause-owed : goal.returns-in-GivenUp-clause-owed
returns-in-GivenUp-clause-owed g c = λ owed. c.enter_argument.ensures.owed (c.loop-place.invariant.owed owed)

pub returns-clause-owed : goal.returns-clause-owed
returns-clause-owed g c = c.loop-place.invariant.owed
