use Rattle.std.proofs.Common.{ap, sym, ◌∙◌, subst}
use Rattle.and_guards.specs.Goals.{CanBeJudged}
use Rattle.and_determinacy.specs.Candidates.{IsNarrowed}
use Rattle.and_determinacy.specs.declared.judging.Narrowed.{Narrowed}
use Rattle.and_branch_parts.specs.Branches.{Held}
use Rattle.and_branch_parts.specs.Watching.{HasTwo}
use Rattle.and_branch_parts.proofs.LoadedPrograms.{is_loaded}
use Rattle.and_branch_parts.proofs.LookedGoals.{is_short, judge_ready, steps_then}
use Rattle.and_branch_parts.proofs.WatchedGoals.{watching_steps}
use Rattle.and_branch.specs.Bodies.{with_next}
use Rattle.and_branch.proofs.CallsInHand.{no_step_to}
use Rattle.and_branch.proofs.branch.Branch.last_clause.Goals as goal

pub narrow_call-requires-clause-short : goal.narrow_call-requires-clause-short
narrow_call-requires-clause-short g c = is_short g.N.Naming.program (with_next c.args.goal c.args.self.now) c.args.goal c.requires.call.at

pub watch_call-requires-clause-goal : goal.watch_call-requires-clause-goal
watch_call-requires-clause-goal g c =
    let P = g.N.Naming.program in
    let says = c.skeleton_is_of_the_program.ensures in
    let loaded = is_loaded P c.args.loaded.now c.requires.program says.skeleton says.own_variables says.few in
    let is = c.in_ok-put_goal-in-Several.ensures.put ∙ ap (λ (b : Held). with_next c.args.goal b) c.in_ok-clause.ensures.unchanged in
    let x = c.requires.call in
    subst (λ (b : Held). CanBeJudged P b.row c.args.goal) (sym is)
    (judge_ready P (with_next c.args.goal c.args.self.now) c.args.goal x.at loaded x.term x.is_call)

pub watch_call-requires-clause-several : goal.watch_call-requires-clause-several
watch_call-requires-clause-several g c =
    let P = g.N.Naming.program in
    let told = c.in_ok-clause.ensures in
    let is = c.in_ok-put_goal-in-Several.ensures.put ∙ ap (λ (b : Held). with_next c.args.goal b) told.unchanged in
    subst (λ (b : Held). HasTwo P b.row c.args.goal) (sym is)
    (subst (λ (n : Narrowed). IsNarrowed P c.args.self.now.row c.args.goal n) c.in-Several.is told.narrowed)

pub returns-in_ok-watch_call-in-Several-clause-put : goal.returns-in_ok-watch_call-in-Several-clause-put
returns-in_ok-watch_call-in-Several-clause-put g c = λ _.
    let P = g.N.Naming.program in
    let old = with_next c.args.goal c.args.self.now in
    let is = c.in_ok-put_goal-in-Several.ensures.put ∙ ap (λ (b : Held). with_next c.args.goal b) c.in_ok-clause.ensures.unchanged in
    steps_then P old c.put_goal.new.self c.watch_call.new.self (no_step_to P old c.put_goal.new.self is)
    (watching_steps P c.put_goal.new.self c.watch_call.new.self c.in_ok-watch_call-in-Several.ensures.watches)

pub returns-in_ok-put_goal-in-Nothing-clause-put : goal.returns-in_ok-put_goal-in-Nothing-clause-put
returns-in_ok-put_goal-in-Nothing-clause-put g c = λ _.
    no_step_to g.N.Naming.program (with_next c.args.goal c.args.self.now) c.put_goal-in-Nothing.new.self
    (c.in_ok-put_goal-in-Nothing.ensures.put ∙ ap (λ (b : Held). with_next c.args.goal b) c.in_ok-clause.ensures.unchanged)
