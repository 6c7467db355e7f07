use Rattle.std.proofs.Common.{true, sym, subst, ◌∙◌}
use Rattle.and_determinacy.specs.Candidates.{IsJudged}
use Rattle.and_determinacy.specs.declared.judging.Judged.{Judged}
use Rattle.and_branch_parts.specs.declared.finding.Seen.TheVariants.{Heavy}
use Rattle.and_branch_parts.proofs.LoadedPrograms.{is_loaded}
use Rattle.and_branch_parts.proofs.LookedGoals.{is_short, judge_ready, passed, idle_heavy, no_candidate}
use Rattle.and_branch_parts.proofs.WatchedGoals.{watches_still}
use Rattle.and_branch.proofs.branch.Branch.look_at_heavy.Goals as goal

pub judge_next-requires-clause-short : goal.judge_next-requires-clause-short
judge_next-requires-clause-short g c = is_short g.N.Naming.program c.args.self.now c.args.goal c.requires.at

pub judge_next-requires-clause-goal : goal.judge_next-requires-clause-goal
judge_next-requires-clause-goal g c =
    let P = g.N.Naming.program in
    let says = c.skeleton_is_of_the_program.ensures in
    let loaded = is_loaded P c.args.loaded.now c.requires.program says.skeleton says.own_variables says.few in
    judge_ready P c.args.self.now c.args.goal c.requires.at loaded c.requires.call.0 c.requires.call.1

pub unreachable-requires : goal.unreachable-requires
unreachable-requires g c =
    let P = g.N.Naming.program in
    let judged = subst (λ (j : Judged). IsJudged P c.args.self.now.row c.args.goal j) c.in-Several.is c.in_ok-judge_next.ensures.judged in
    judged.2 (c.requires.only judged.0 judged.3 ∙ sym (c.requires.only judged.1 judged.4))

pub returns-in-Nothing-clause-steps : goal.returns-in-Nothing-clause-steps
returns-in-Nothing-clause-steps g c =
    let P = g.N.Naming.program in
    let says = c.skeleton_is_of_the_program.ensures in
    let loaded = is_loaded P c.args.loaded.now c.requires.program says.skeleton says.own_variables says.few in
    let judged = subst (λ (j : Judged). IsJudged P c.args.self.now.row c.args.goal j) c.in-Nothing.is c.in_ok-judge_next.ensures.judged in
    no_candidate P loaded c.args.self.now c.judge_next.new.self c.mark_failed.new.self c.args.goal c.requires.at
    c.in_ok-judge_next.ensures.unchanged c.requires.call.0 c.requires.call.1 judged c.mark_failed.ensures

pub returns-in_ok-pass-in-One-clause-steps : goal.returns-in_ok-pass-in-One-clause-steps
returns-in_ok-pass-in-One-clause-steps g c =
    let P = g.N.Naming.program in
    let told = c.in_ok-judge_next.ensures.judged in
    let judged = subst (λ (j : Judged). IsJudged P c.args.self.now.row c.args.goal j) c.in-One.is told in
    let both = passed P true c.args.self.now c.judge_next.new.self c.pass.new.self c.args.goal (Heavy c.in-One.sole) c.requires.at
    (watches_still P c.args.self.now c.judge_next.new.self c.in_ok-judge_next.ensures.unchanged)
    c.in_ok-pass-in-One.ensures.moved c.in_ok-pass-in-One.ensures.passed
    (λ may. idle_heavy P c.args.self.now c.args.goal c.requires.at c.requires.call.0 c.requires.call.1 c.args.clause.0 c.requires.only
    c.requires.no_room c.in-One.sole judged) in
    both.1

pub returns-in_ok-pass-in-One-clause-came_to : goal.returns-in_ok-pass-in-One-clause-came_to
returns-in_ok-pass-in-One-clause-came_to g c =
    let P = g.N.Naming.program in
    let told = c.in_ok-judge_next.ensures.judged in
    let judged = subst (λ (j : Judged). IsJudged P c.args.self.now.row c.args.goal j) c.in-One.is told in
    let both = passed P true c.args.self.now c.judge_next.new.self c.pass.new.self c.args.goal (Heavy c.in-One.sole) c.requires.at
    (watches_still P c.args.self.now c.judge_next.new.self c.in_ok-judge_next.ensures.unchanged)
    c.in_ok-pass-in-One.ensures.moved c.in_ok-pass-in-One.ensures.passed
    (λ may. idle_heavy P c.args.self.now c.args.goal c.requires.at c.requires.call.0 c.requires.call.1 c.args.clause.0 c.requires.only
    c.requires.no_room c.in-One.sole judged) in
    both.0
