use Rattle.std.proofs.Common.{Ok, List, nat_lt, ap, sym, ◌∙◌, subst}
use Rattle.and_model.specs.declared.reference.Ref.{Ref}
use Rattle.and_program.specs.Items.{node_item}
use Rattle.and_step_laws.proofs.Goals.{runnable}
use Rattle.and_reduction.specs.Runs.{IsWaiting, WaitsFor}
use Rattle.and_branch_parts.specs.declared.finding.Seen.TheVariants.{Arithmetic}
use Rattle.and_branch_parts.proofs.LoadedPrograms.{is_loaded}
use Rattle.and_branch_parts.proofs.LookedGoals.{is_short, run_ready, unmoved, at_unmoved, passed_unmoved, passed, next_still, idle_waiting, ran, cannot_hold}
use Rattle.and_branch.proofs.branch.Branch.look_at_arithmetic.Goals as goal

pub run_next-requires-clause-short : goal.run_next-requires-clause-short
run_next-requires-clause-short g c = is_short g.N.Naming.program c.args.self.now c.args.goal c.requires.at

pub run_next-requires-clause-item : goal.run_next-requires-clause-item
run_next-requires-clause-item g c =
    let P = g.N.Naming.program in
    let says = c.skeleton_is_of_the_program.ensures in
    let loaded = is_loaded P c.args.loaded.now c.requires.program says.skeleton says.own_variables says.few in
    runnable P loaded c.args.self.now.row c.args.goal
    (run_ready P c.args.self.now c.args.goal c.requires.at loaded c.requires.arithmetic.0 c.requires.arithmetic.1)
    (node_item c.args.item) c.requires.item

pub watch_arithmetic-requires-clause-waits : goal.watch_arithmetic-requires-clause-waits
watch_arithmetic-requires-clause-waits g c =
    let P = g.N.Naming.program in
    let was = c.in_ok-cell.was ∙ ap Ok c.in-Waits.is in
    subst (λ (row : List Ref). WaitsFor P row c.args.goal c.in-Waits.cell) (sym (c.run_next.ensures.unchanged c.in-Waits.cell was))
    (c.run_next.ensures.waits_for c.in-Waits.cell was)

pub pass-requires : goal.pass-requires
pass-requires g c =
    let P = g.N.Naming.program in
    let was = c.in_ok-cell.was ∙ ap Ok c.in-Waits.is in
    let same = unmoved c.args.self.now c.run_next.new.self c.run_next.ensures.others (c.run_next.ensures.unchanged c.in-Waits.cell was) in
    let at = at_unmoved P c.args.self.now c.run_next.new.self same c.in_ok-cell.ensures.back c.args.goal c.requires.at in
    record { next = next_still P c.run_next.new.self c.watch_arithmetic.new.self c.args.goal c.in_ok-watch_arithmetic-in-Waits.ensures.watches at }

pub returns-in_ok-pass-in-Waits-clause-steps : goal.returns-in_ok-pass-in-Waits-clause-steps
returns-in_ok-pass-in-Waits-clause-steps g c =
    let P = g.N.Naming.program in
    let was = c.in_ok-cell.was ∙ ap Ok c.in-Waits.is in
    let row = c.run_next.ensures.unchanged c.in-Waits.cell was in
    let same = unmoved c.args.self.now c.run_next.new.self c.run_next.ensures.others row in
    let at = at_unmoved P c.args.self.now c.run_next.new.self same c.in_ok-cell.ensures.back c.args.goal c.requires.at in
    let waits = subst (λ (l : List Ref). IsWaiting P l c.args.goal) (sym row) (c.run_next.ensures.waits c.in-Waits.cell was) in
    let both = passed P (nat_lt 0 c.args.left) c.run_next.new.self c.watch_arithmetic.new.self c.pass.new.self c.args.goal Arithmetic at
    c.in_ok-watch_arithmetic-in-Waits.ensures.watches c.in_ok-pass-in-Waits.ensures.moved c.in_ok-pass-in-Waits.ensures.passed
    (λ may. idle_waiting P c.run_next.new.self.limit c.run_next.new.self.row c.args.goal c.requires.arithmetic.0 c.requires.arithmetic.1 waits) in
    let all = passed_unmoved P c.args.self.now c.run_next.new.self same c.in_ok-cell.ensures.back (nat_lt 0 c.args.left) c.pass.new.self c.args.goal Arithmetic
    both in
    all.1

pub returns-in_ok-pass-in-Waits-clause-came_to : goal.returns-in_ok-pass-in-Waits-clause-came_to
returns-in_ok-pass-in-Waits-clause-came_to g c =
    let P = g.N.Naming.program in
    let was = c.in_ok-cell.was ∙ ap Ok c.in-Waits.is in
    let row = c.run_next.ensures.unchanged c.in-Waits.cell was in
    let same = unmoved c.args.self.now c.run_next.new.self c.run_next.ensures.others row in
    let at = at_unmoved P c.args.self.now c.run_next.new.self same c.in_ok-cell.ensures.back c.args.goal c.requires.at in
    let waits = subst (λ (l : List Ref). IsWaiting P l c.args.goal) (sym row) (c.run_next.ensures.waits c.in-Waits.cell was) in
    let both = passed P (nat_lt 0 c.args.left) c.run_next.new.self c.watch_arithmetic.new.self c.pass.new.self c.args.goal Arithmetic at
    c.in_ok-watch_arithmetic-in-Waits.ensures.watches c.in_ok-pass-in-Waits.ensures.moved c.in_ok-pass-in-Waits.ensures.passed
    (λ may. idle_waiting P c.run_next.new.self.limit c.run_next.new.self.row c.args.goal c.requires.arithmetic.0 c.requires.arithmetic.1 waits) in
    let all = passed_unmoved P c.args.self.now c.run_next.new.self same c.in_ok-cell.ensures.back (nat_lt 0 c.args.left) c.pass.new.self c.args.goal Arithmetic
    both in
    all.0

pub returns-in-Done-clause-steps : goal.returns-in-Done-clause-steps
returns-in-Done-clause-steps g c =
    let P = g.N.Naming.program in
    let says = c.skeleton_is_of_the_program.ensures in
    let loaded = is_loaded P c.args.loaded.now c.requires.program says.skeleton says.own_variables says.few in
    let was = c.in_ok-cell.was ∙ ap Ok c.in-Done.is in
    let all = ran P loaded c.args.self.now c.run_next.new.self c.drop_next.new.self c.args.goal c.requires.at c.run_next.ensures.others
    c.in_ok-cell.ensures.back (c.run_next.ensures.done was) c.drop_next.ensures.dropped c.drop_next.ensures.few in
    all.3

pub returns-in-Done-clause-came_to : goal.returns-in-Done-clause-came_to
returns-in-Done-clause-came_to g c =
    let P = g.N.Naming.program in
    let says = c.skeleton_is_of_the_program.ensures in
    let loaded = is_loaded P c.args.loaded.now c.requires.program says.skeleton says.own_variables says.few in
    let was = c.in_ok-cell.was ∙ ap Ok c.in-Done.is in
    let all = ran P loaded c.args.self.now c.run_next.new.self c.drop_next.new.self c.args.goal c.requires.at c.run_next.ensures.others
    c.in_ok-cell.ensures.back (c.run_next.ensures.done was) c.drop_next.ensures.dropped c.drop_next.ensures.few in
    (all.0, all.1, all.2)

pub returns-in-False-clause-steps : goal.returns-in-False-clause-steps
returns-in-False-clause-steps g c =
    let P = g.N.Naming.program in
    let says = c.skeleton_is_of_the_program.ensures in
    let loaded = is_loaded P c.args.loaded.now c.requires.program says.skeleton says.own_variables says.few in
    let was = c.in_ok-cell.was ∙ ap Ok c.in-False.is in
    cannot_hold P loaded c.args.self.now c.run_next.new.self c.mark_failed.new.self c.args.goal c.requires.at c.run_next.ensures.others
    c.in_ok-cell.ensures.back (c.run_next.ensures.fails was) c.mark_failed.ensures
