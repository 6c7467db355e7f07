use Rattle.std.proofs.Common.{◌<◌, length, Ok, ap, ◌∙◌, subst, arith}
use Rattle.and_model.specs.declared.goal.Goal.{Goal}
use Rattle.and_reduction.specs.Runs.{HasRun, CannotHold}
use Rattle.and_branch_parts.specs.Branches.{Held}
use Rattle.and_branch_parts.proofs.LoadedPrograms.{is_loaded}
use Rattle.and_branch_parts.proofs.LookedGoals.{no_steps, is_settled, is_short}
use Rattle.and_branch.specs.Bodies.{with_body}
use Rattle.and_branch.proofs.BodiesRun.{at, can_run_as, ran_on, fails_on, stays_on}
use Rattle.and_branch.proofs.branch.Branch.begin_item.Goals as goal

pub run_next-requires-clause-settled : goal.run_next-requires-clause-settled
run_next-requires-clause-settled g c =
    let P = g.N.Naming.program in
    let says = c.skeleton_is_of_the_program.ensures in
    let loaded = is_loaded P c.args.loaded.now c.requires.program says.skeleton says.own_variables says.few in
    let below : c.args.place < length c.args.items.now = let count = c.requires.count in omega arith in
    is_settled P (with_body P c.args.clause.0 c.args.node c.args.place c.args.self.now) _
    (at P loaded c.args.clause.0 c.args.node c.args.place c.args.items.now c.requires.items _ below c.args.self.now c.requires.branch
    c.requires.live (c.is_arithmetic_item.ensures.goal c.if-not-is_arithmetic_item.false))

pub run_next-requires-clause-short : goal.run_next-requires-clause-short
run_next-requires-clause-short g c =
    let P = g.N.Naming.program in
    let says = c.skeleton_is_of_the_program.ensures in
    let loaded = is_loaded P c.args.loaded.now c.requires.program says.skeleton says.own_variables says.few in
    let below : c.args.place < length c.args.items.now = let count = c.requires.count in omega arith in
    is_short P (with_body P c.args.clause.0 c.args.node c.args.place c.args.self.now) _
    (at P loaded c.args.clause.0 c.args.node c.args.place c.args.items.now c.requires.items _ below c.args.self.now c.requires.branch
    c.requires.live (c.is_arithmetic_item.ensures.goal c.if-not-is_arithmetic_item.false))

pub run_next-requires-clause-item : goal.run_next-requires-clause-item
run_next-requires-clause-item g c =
    let P = g.N.Naming.program in
    let says = c.skeleton_is_of_the_program.ensures in
    let loaded = is_loaded P c.args.loaded.now c.requires.program says.skeleton says.own_variables says.few in
    let below : c.args.place < length c.args.items.now = let count = c.requires.count in omega arith in
    can_run_as P loaded c.args.clause.0 c.args.node c.args.place c.args.items.now c.requires.items _ below c.args.self.now c.requires.branch
    c.requires.live (c.is_arithmetic_item.ensures.goal c.if-not-is_arithmetic_item.false) c.body_goal-goal.result c.body_goal-goal.ensures
    (c.is_arithmetic_item.ensures.other c.if-not-is_arithmetic_item.false)

pub returns-then-place-count-clause-stays : goal.returns-then-place-count-clause-stays
returns-then-place-count-clause-stays g c = λ _. (
  c.requires.live,
  no_steps g.N.Naming.program (with_body g.N.Naming.program c.args.clause.0 c.args.node c.args.place c.args.self.now),
)

pub returns-then-not-is_arithmetic_item-clause-stays : goal.returns-then-not-is_arithmetic_item-clause-stays
returns-then-not-is_arithmetic_item-clause-stays g c = λ _. (
  c.requires.live,
  no_steps g.N.Naming.program (with_body g.N.Naming.program c.args.clause.0 c.args.node c.args.place c.args.self.now),
)

pub returns-in-Waits-clause-stays : goal.returns-in-Waits-clause-stays
returns-in-Waits-clause-stays g c = λ _. (
  ap (λ (b : Held). b.is_failed) c.run_next.ensures.others ∙ c.requires.live,
  stays_on g.N.Naming.program c.args.clause.0 c.args.node c.args.place c.args.self.now c.run_next.new.self c.run_next.ensures.others
      (c.run_next.ensures.unchanged _ (c.in_ok-run_next.was ∙ ap Ok c.in-Waits.is)) c.in_ok-run_next.ensures.back,
)

pub returns-in-Done-clause-ran : goal.returns-in-Done-clause-ran
returns-in-Done-clause-ran g c = λ _.
    let P = g.N.Naming.program in
    let says = c.skeleton_is_of_the_program.ensures in
    let loaded = is_loaded P c.args.loaded.now c.requires.program says.skeleton says.own_variables says.few in
    let below : c.args.place < length c.args.items.now = let count = c.requires.count in omega arith in
    let run = subst (λ (x : Goal). HasRun P c.args.self.now.row c.run_next.new.self.row x) c.body_goal-goal.ensures
    (c.run_next.ensures.done (c.in_ok-run_next.was ∙ ap Ok c.in-Done.is)) in (
      let count = c.requires.count in omega arith,
      ap (λ (b : Held). b.is_failed) c.run_next.ensures.others ∙ c.requires.live,
      ran_on P loaded c.args.clause.0 c.args.node c.args.place c.args.items.now c.requires.items _ below c.args.self.now c.requires.branch
          c.requires.live (c.is_arithmetic_item.ensures.goal c.if-not-is_arithmetic_item.false)
          c.run_next.new.self c.run_next.ensures.others c.in_ok-run_next.ensures.back run,
    )

pub returns-in-False-clause-failed : goal.returns-in-False-clause-failed
returns-in-False-clause-failed g c = λ _.
    let P = g.N.Naming.program in
    let says = c.skeleton_is_of_the_program.ensures in
    let loaded = is_loaded P c.args.loaded.now c.requires.program says.skeleton says.own_variables says.few in
    let below : c.args.place < length c.args.items.now = let count = c.requires.count in omega arith in
    let cannot = subst (λ (x : Goal). CannotHold P c.args.self.now.row x) c.body_goal-goal.ensures
    (c.run_next.ensures.fails (c.in_ok-run_next.was ∙ ap Ok c.in-False.is)) in
    fails_on P loaded c.args.clause.0 c.args.node c.args.place c.args.items.now c.requires.items _ below c.args.self.now c.requires.branch
    c.requires.live (c.is_arithmetic_item.ensures.goal c.if-not-is_arithmetic_item.false)
    c.run_next.new.self c.run_next.ensures.others c.in_ok-run_next.ensures.back c.mark_failed.new.self cannot c.mark_failed.ensures
