use Rattle.std.proofs.Common.{◌+◌, ◌≤◌, ◌++◌, drop, refl, sym, subst, ◌∙◌, arith}
use Rattle.and_cells.specs.Ranges.{NamedProgram}
use Rattle.and_cells.specs.Parts.{named, IsStructure}
use Rattle.and_unify.specs.declared.descending.Plainly.TheVariants as plainly
use Rattle.and_unify.specs.Meeting.{AreOfOneShape}
use Rattle.and_unify.specs.Running.{Runs, start, stepped, arguments_of_both}
use Rattle.and_unify.proofs.TurnArguments.{arguments_counted, as_many}
use Rattle.and_unify.proofs.DescentRuns.{HasShape, waits, runs_words, argument_turn, last_argument, put_by_runs, put_by_shape, comes_of_first, comes_onward}
use Rattle.and_unify.proofs.descending.meet_arguments.Goals.{in-Done, in-Onward+in-Ok}
use Rattle.and_unify.proofs.descending.meet_arguments.Goals as goal

pub loop-place-init : goal.loop-place-init
loop-place-init g c = record { over = refl; grew = g.met.C.Cells.grew_nothing c.args.cells.now; shape = tt; runs = start }

pub argument_pair-pair-requires-clause-right_place : goal.argument_pair-pair-requires-clause-right_place
argument_pair-pair-requires-clause-right_place g c =
    let many = as_many g.C.Cells.program (named c.args.loaded.now) _ c.args.both.left c.args.both.right c.as_structure-left.result.node
    c.as_structure-right.result.node _ _ c.requires.program c.requires.shape c.as_structure-left.ensures c.as_structure-right.ensures in
    let end = c.argument_count-place-end.ensures in
    let below = c.loop-place-test.true in
    omega arith

pub meet_argument-requires-clause-in_range : goal.meet_argument-requires-clause-in_range
meet_argument-requires-clause-in_range g c =
    let t = argument_turn g.C.Cells.program (named c.args.loaded.now) (g.C.Cells.seen c.args.cells.now) (g.C.Cells.seen c.loop-place.cells) _ _ _ _ c.args.both
    c.argument_pair-pair.result _ _ c.loop-place.place c.requires.program c.requires.falls c.requires.shape c.as_structure-left.ensures
    c.as_structure-right.ensures c.argument_pair-pair.ensures.left c.argument_pair-pair.ensures.right c.loop-place.invariant.runs in
    (t.fit.left_in_range, t.fit.right_in_range)

pub meet_argument-requires-clause-written : goal.meet_argument-requires-clause-written
meet_argument-requires-clause-written g c =
    let t = argument_turn g.C.Cells.program (named c.args.loaded.now) (g.C.Cells.seen c.args.cells.now) (g.C.Cells.seen c.loop-place.cells) _ _ _ _ c.args.both
    c.argument_pair-pair.result _ _ c.loop-place.place c.requires.program c.requires.falls c.requires.shape c.as_structure-left.ensures
    c.as_structure-right.ensures c.argument_pair-pair.ensures.left c.argument_pair-pair.ensures.right c.loop-place.invariant.runs in
    (t.fit.left_written, t.fit.right_written)

pub returns-in-Err-clause-grew : goal.returns-in-Err-clause-grew
returns-in-Err-clause-grew g c =
    g.met.C.Cells.grew_on c.args.cells.now c.loop-place.cells c.meet_argument.new.cells c.loop-place.invariant.grew c.meet_argument.ensures.grew

pub returns-in-Apart-clause-grew : goal.returns-in-Apart-clause-grew
returns-in-Apart-clause-grew g c =
    g.met.C.Cells.grew_on c.args.cells.now c.loop-place.cells c.meet_argument.new.cells c.loop-place.invariant.grew c.meet_argument.ensures.grew

pub returns-in-Memory-clause-grew : goal.returns-in-Memory-clause-grew
returns-in-Memory-clause-grew g c =
    g.met.C.Cells.grew_on c.args.cells.now c.loop-place.cells c.meet_argument.new.cells c.loop-place.invariant.grew c.meet_argument.ensures.grew

pub returns-in-Err-clause-comes : goal.returns-in-Err-clause-comes
returns-in-Err-clause-comes g c =
    let t = argument_turn g.C.Cells.program (named c.args.loaded.now) (g.C.Cells.seen c.args.cells.now) (g.C.Cells.seen c.loop-place.cells) _ _ _ _ c.args.both
    c.argument_pair-pair.result _ _ c.loop-place.place c.requires.program c.requires.falls c.requires.shape c.as_structure-left.ensures
    c.as_structure-right.ensures c.argument_pair-pair.ensures.left c.argument_pair-pair.ensures.right c.loop-place.invariant.runs in
    comes_of_first g.C.Cells.program (g.C.Cells.seen c.args.cells.now) (g.C.Cells.seen c.loop-place.cells) (g.C.Cells.seen c.meet_argument.new.cells) _ _ _ _ _
    c.argument_pair-pair.result plainly.Memory t.runs (c.in-Onward.ensures.meets.0.lead.reads, c.in-Onward.ensures.meets.1)

pub returns-in-Apart-clause-comes : goal.returns-in-Apart-clause-comes
returns-in-Apart-clause-comes g c =
    let t = argument_turn g.C.Cells.program (named c.args.loaded.now) (g.C.Cells.seen c.args.cells.now) (g.C.Cells.seen c.loop-place.cells) _ _ _ _ c.args.both
    c.argument_pair-pair.result _ _ c.loop-place.place c.requires.program c.requires.falls c.requires.shape c.as_structure-left.ensures
    c.as_structure-right.ensures c.argument_pair-pair.ensures.left c.argument_pair-pair.ensures.right c.loop-place.invariant.runs in
    comes_of_first g.C.Cells.program (g.C.Cells.seen c.args.cells.now) (g.C.Cells.seen c.loop-place.cells) (g.C.Cells.seen c.meet_argument.new.cells) _ _ _ _ _
    c.argument_pair-pair.result (plainly.Apart c.in-Apart.left c.in-Apart.right) t.runs c.in-Apart.ensures.meets

pub returns-in-Memory-clause-comes : goal.returns-in-Memory-clause-comes
returns-in-Memory-clause-comes g c =
    let t = argument_turn g.C.Cells.program (named c.args.loaded.now) (g.C.Cells.seen c.args.cells.now) (g.C.Cells.seen c.loop-place.cells) _ _ _ _ c.args.both
    c.argument_pair-pair.result _ _ c.loop-place.place c.requires.program c.requires.falls c.requires.shape c.as_structure-left.ensures
    c.as_structure-right.ensures c.argument_pair-pair.ensures.left c.argument_pair-pair.ensures.right c.loop-place.invariant.runs in
    comes_of_first g.C.Cells.program (g.C.Cells.seen c.args.cells.now) (g.C.Cells.seen c.loop-place.cells) (g.C.Cells.seen c.meet_argument.new.cells) _ _ _ _ _
    c.argument_pair-pair.result plainly.Memory t.runs c.in-Memory.ensures.meets

pub loop-place-preserved : goal.loop-place-preserved
loop-place-preserved g c =
    let P = g.C.Cells.program in
    let old = g.C.Cells.seen c.args.cells.now in
    let s = g.C.Cells.seen c.loop-place.cells in
    let new = g.C.Cells.seen c.meet_argument.new.cells in
    let todo = arguments_of_both P c.args.both ++ c.args.list.now in
    let began = c.args.bound.now.items in
    let further = c.loop-place.bound.items in
    let last = c.meet_argument.new.bound.items in
    let pair = c.argument_pair-pair.result in
    let list = c.loop-place.list in
    let next = c.match-meet_argument.next in
    let ds = drop (c.loop-place.place + 1) (arguments_of_both P c.args.both) in
    let t = argument_turn g.C.Cells.program (named c.args.loaded.now) (g.C.Cells.seen c.args.cells.now) (g.C.Cells.seen c.loop-place.cells) _ _ _ _ c.args.both
    c.argument_pair-pair.result _ _ c.loop-place.place c.requires.program c.requires.falls c.requires.shape c.as_structure-left.ensures
    c.as_structure-right.ensures c.argument_pair-pair.ensures.left c.argument_pair-pair.ensures.right c.loop-place.invariant.runs in
    let kept : HasShape P old.words next × Runs P old todo began new (ds ++ (waits P next ++ c.match-meet_argument.list)) last =
    elim c.match-meet_argument.branch [
      | in-Done w ↦
          let rest = ds ++ (waits P c.loop-place.next ++ list) in (
            subst (HasShape P old.words) (sym w.next-is) c.loop-place.invariant.shape,
            subst (λ l. Runs P old todo began new (ds ++ (waits P next ++ l)) last) (sym w.list-is)
                (subst (λ n. Runs P old todo began new (ds ++ (waits P n ++ list)) last) (sym w.next-is)
                (stepped s new pair rest rest further last t.runs (w.in-Done.ensures.meets rest))),
          )
      | in-Onward+in-Ok w ↦
          let inner = w.in-Onward.inner in
          let first = w.in-Ok.first in
          let meets = w.in-Onward.ensures.meets in (
            subst (HasShape P old.words) (sym w.next-is) (put_by_shape P old.words inner first c.loop-place.next _ _ c.loop-place.invariant.shape
                (subst (λ n. AreOfOneShape P n inner.left inner.right) t.words meets.0.shape) w.in-Ok.ensures),
            subst (λ l. Runs P old todo began new (ds ++ (waits P next ++ l)) last) (sym w.list-is)
                (subst (λ n. Runs P old todo began new (ds ++ (waits P n ++ w.put_by.new.list)) last) (sym w.next-is)
                (put_by_runs P old s new todo ds list w.put_by.new.list began further last pair inner first c.loop-place.next t.runs meets w.in-Ok.ensures)),
          )
    ] in
    record {
      over = c.meet_argument.ensures.over ∙ c.loop-place.invariant.over;
      grew = g.met.C.Cells.grew_on c.args.cells.now c.loop-place.cells c.meet_argument.new.cells c.loop-place.invariant.grew c.meet_argument.ensures.grew;
      shape = kept.0;
      runs = kept.1;
    }

pub returns-clause-comes : goal.returns-clause-comes
returns-clause-comes g c =
    let P = g.C.Cells.program in
    let Q = named c.args.loaded.now in
    let old = g.C.Cells.seen c.args.cells.now in
    let s = g.C.Cells.seen c.loop-place.cells in
    let both = c.args.both in
    let todo = arguments_of_both P both ++ c.args.list.now in
    let behind = waits P c.loop-place.next ++ c.loop-place.list in
    let shape = c.requires.shape in
    let is : IsStructure Q both.left shape.name shape.count =
    subst (λ (p : NamedProgram). IsStructure p both.left shape.name shape.count) c.requires.program shape.left_is in
    let one = arguments_counted Q both.left c.as_structure-left.result.node c.as_structure-left.result.base shape.name shape.count
    c.as_structure-left.ensures is in
    let past : shape.count ≤ c.loop-place.place = let end = c.argument_count-place-end.ensures in let at = c.loop-place-test.false in omega arith in
    let runs = last_argument P old s todo behind c.args.bound.now.items c.loop-place.bound.items both shape.name shape.count c.loop-place.place shape.left_is
    past c.loop-place.invariant.runs in
    let words = runs_words P old todo c.args.bound.now.items s behind c.loop-place.bound.items runs in
    comes_onward P old s todo c.loop-place.list c.args.bound.now.items c.loop-place.bound.items c.loop-place.next c.onward.result
    (subst (λ n. HasShape P n c.loop-place.next) (sym words) c.loop-place.invariant.shape) runs c.onward.ensures.some c.onward.ensures.none
