use Rattle.std.proofs.Common.{◌++◌, subst}
use Rattle.and_cells.specs.Ranges.{NamedProgram}
use Rattle.and_cells.specs.Parts.{named}
use Rattle.and_unify.specs.Meeting.{AreOfOneShape}
use Rattle.and_unify.specs.Running.{arguments_of_both}
use Rattle.and_unify.proofs.DescentKept.{named_falls}
use Rattle.and_unify.proofs.DescentEnds.{none_left, some_left, two_apart, memory_wanting}
use Rattle.and_unify.proofs.descending.descend.Goals as goal

pub meet_all-requires-clause-falls : goal.meet_all-requires-clause-falls
meet_all-requires-clause-falls g c =
    named_falls g.C.Cells.program (named c.args.loaded.now) c.requires.program c.skeleton_is_of_the_program.ensures.skeleton.0

pub push_arguments-requires : goal.push_arguments-requires
push_arguments-requires g c =
    let words = (g.C.Cells.seen c.meet_all.new.cells).words in (
      words,
      subst (λ (p : NamedProgram). AreOfOneShape p words c.in-Onward.both.left c.in-Onward.both.right) c.requires.program c.in-Onward.ensures.comes.0,
    )

pub returns-in-Done-clause-comes : goal.returns-in-Done-clause-comes
returns-in-Done-clause-comes g c =
    let P = g.C.Cells.program in
    let fall = named_falls P (named c.args.loaded.now) c.requires.program c.skeleton_is_of_the_program.ensures.skeleton.0 in
    none_left P (g.C.Cells.seen c.args.cells.now) (g.C.Cells.seen c.meet_all.new.cells) c.args.pairs.now c.args.bound.now.items c.meet_all.new.bound.items fall
    c.requires.in_range c.requires.written c.meet_all.new.pairs (c.meet_all.ensures.empty c.in-Done.is) c.in-Done.ensures.comes

pub returns-in-Ok-clause-comes : goal.returns-in-Ok-clause-comes
returns-in-Ok-clause-comes g c =
    let P = g.C.Cells.program in
    let fall = named_falls P (named c.args.loaded.now) c.requires.program c.skeleton_is_of_the_program.ensures.skeleton.0 in
    some_left P (g.C.Cells.seen c.args.cells.now) (g.C.Cells.seen c.meet_all.new.cells) c.args.pairs.now c.args.bound.now.items c.meet_all.new.bound.items fall
    c.requires.in_range c.requires.written c.in-Onward.both c.meet_all.new.pairs c.push_arguments.new.list (named c.args.loaded.now)
    c.requires.program c.in-Ok.ensures.ok c.in-Onward.ensures.comes.1

pub returns-in-Err-clause-comes : goal.returns-in-Err-clause-comes
returns-in-Err-clause-comes g c =
    let P = g.C.Cells.program in
    let fall = named_falls P (named c.args.loaded.now) c.requires.program c.skeleton_is_of_the_program.ensures.skeleton.0 in
    memory_wanting P (g.C.Cells.seen c.args.cells.now) (g.C.Cells.seen c.meet_all.new.cells) c.args.pairs.now c.args.bound.now.items
    c.meet_all.new.bound.items fall
    c.requires.in_range c.requires.written (arguments_of_both P c.in-Onward.both ++ c.meet_all.new.pairs) c.push_arguments.new.list
    c.in-Onward.ensures.comes.1

pub returns-in-Apart-clause-comes : goal.returns-in-Apart-clause-comes
returns-in-Apart-clause-comes g c =
    let P = g.C.Cells.program in
    let fall = named_falls P (named c.args.loaded.now) c.requires.program c.skeleton_is_of_the_program.ensures.skeleton.0 in
    two_apart P (g.C.Cells.seen c.args.cells.now) (g.C.Cells.seen c.meet_all.new.cells) c.args.pairs.now c.args.bound.now.items c.meet_all.new.bound.items fall
    c.requires.in_range c.requires.written c.meet_all.new.pairs c.in-Apart.left c.in-Apart.right c.in-Apart.ensures.comes

pub returns-in-Memory-clause-comes : goal.returns-in-Memory-clause-comes
returns-in-Memory-clause-comes g c =
    let P = g.C.Cells.program in
    let fall = named_falls P (named c.args.loaded.now) c.requires.program c.skeleton_is_of_the_program.ensures.skeleton.0 in
    memory_wanting P (g.C.Cells.seen c.args.cells.now) (g.C.Cells.seen c.meet_all.new.cells) c.args.pairs.now c.args.bound.now.items
    c.meet_all.new.bound.items fall
    c.requires.in_range c.requires.written c.in-Memory.ensures.comes.0 c.meet_all.new.pairs c.in-Memory.ensures.comes.1
