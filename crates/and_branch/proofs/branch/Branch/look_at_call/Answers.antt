use Rattle.std.proofs.Common.{nat_lt, sym, subst, rules}
use Rattle.std.specs.Prelude.{IfSome}
use Rattle.and_cells.specs.Meaning.{IsSettled}
use Rattle.and_determinacy.specs.Candidates.{IsNarrowed}
use Rattle.and_guards.specs.Goals.{CanBeJudged, IsNodeOf}
use Rattle.and_determinacy.specs.declared.judging.Narrowed.{Narrowed}
use Rattle.and_determinacy.specs.Watching.{TwoStayWhile}
use Rattle.and_branch_parts.specs.Branches.{Held}
use Rattle.and_branch_parts.specs.Rounds.{IsAtMost, WatchesOn}
use Rattle.and_branch_parts.specs.Watching.{HasTwo}
use Rattle.and_branch_parts.specs.declared.finding.Seen.TheVariants.{Several}
use Rattle.and_branch_parts.proofs.LoadedPrograms.{is_loaded}
use Rattle.and_branch_parts.proofs.LookedGoals.{is_settled, is_short, judge_ready, passed, next_still, idle_several, no_candidate}
use Rattle.and_branch.proofs.branch.Branch.look_at_call.Goals as goal

pub narrow_call-requires-clause-short : goal.narrow_call-requires-clause-short
narrow_call-requires-clause-short g c = is_short g.N.Naming.program c.args.self.now c.args.goal c.requires.at

pub look_at_last-requires-clause-last : goal.look_at_last-requires-clause-last
look_at_last-requires-clause-last g c =
    let P = g.N.Naming.program in
    let says = c.in_ok-narrow_call.ensures in
    let narrowed = subst (λ (n : Narrowed). IsNarrowed P c.args.self.now.row c.args.goal n) c.in-AtMost.is says.narrowed in
    λ _ _. subst (λ (b : Held). IsAtMost P b.row c.args.goal c.in-AtMost.clause.0) (sym says.unchanged) narrowed

pub look_at_last-requires-clause-node : goal.look_at_last-requires-clause-node
look_at_last-requires-clause-node g c = λ _ _.
    subst (λ (b : Held). IsNodeOf g.N.Naming.program b.row c.args.goal c.args.node.0) (sym c.in_ok-narrow_call.ensures.unchanged) c.requires.node

pub returns-in-Nothing-clause-steps : goal.returns-in-Nothing-clause-steps
returns-in-Nothing-clause-steps g c =
    let P = g.N.Naming.program in
    let says = c.skeleton_is_of_the_program.ensures in
    let loaded = is_loaded P c.args.loaded.now c.requires.program says.skeleton says.own_variables says.few in
    let told = c.in_ok-narrow_call.ensures in
    let narrowed = subst (λ (n : Narrowed). IsNarrowed P c.args.self.now.row c.args.goal n) c.in-Nothing.is told.narrowed in
    no_candidate P loaded c.args.self.now c.narrow_call.new.self c.mark_failed.new.self c.args.goal c.requires.at
    told.unchanged c.requires.call.0 c.requires.call.1 narrowed c.mark_failed.ensures

pub watch_call-requires-clause-settled : goal.watch_call-requires-clause-settled
watch_call-requires-clause-settled g c =
    let P = g.N.Naming.program in
    subst (λ (b : Held). IsSettled P b.row) (sym c.in_ok-narrow_call.ensures.unchanged)
    (is_settled P c.args.self.now c.args.goal c.requires.at)

pub watch_call-requires-clause-goal : goal.watch_call-requires-clause-goal
watch_call-requires-clause-goal g c =
    let P = g.N.Naming.program in
    let says = c.skeleton_is_of_the_program.ensures in
    let loaded = is_loaded P c.args.loaded.now c.requires.program says.skeleton says.own_variables says.few in
    subst (λ (b : Held). CanBeJudged P b.row c.args.goal) (sym c.in_ok-narrow_call.ensures.unchanged)
    (judge_ready P c.args.self.now c.args.goal c.requires.at loaded c.requires.call.0 c.requires.call.1)

pub watch_call-requires-clause-several : goal.watch_call-requires-clause-several
watch_call-requires-clause-several g c =
    let P = g.N.Naming.program in
    let told = c.in_ok-narrow_call.ensures in
    let narrowed = subst (λ (n : Narrowed). IsNarrowed P c.args.self.now.row c.args.goal n) c.in-Several.is told.narrowed in
    subst (λ (b : Held). HasTwo P b.row c.args.goal) (sym told.unchanged) narrowed

pub watch_call-requires-clause-told : goal.watch_call-requires-clause-told
watch_call-requires-clause-told g c =
    let P = g.N.Naming.program in
    let says = c.in_ok-narrow_call.ensures in
    subst (λ (b : Held). IfSome c.narrow_call.new.workspace.trials.rests (TwoStayWhile P b.row c.args.goal)) (sym says.unchanged)
    (says.told (first_of (cc, search rules)))

pub pass-requires : goal.pass-requires
pass-requires g c =
    let P = g.N.Naming.program in
    let watches = subst (λ (b : Held). WatchesOn P b c.watch_call.new.self) c.in_ok-narrow_call.ensures.unchanged
    c.in_ok-watch_call-in-Several.ensures.watches in
    record { next = next_still P c.args.self.now c.watch_call.new.self c.args.goal watches c.requires.at }

pub returns-in_ok-pass-in-Several-clause-steps : goal.returns-in_ok-pass-in-Several-clause-steps
returns-in_ok-pass-in-Several-clause-steps g c =
    let P = g.N.Naming.program in
    let told = c.in_ok-narrow_call.ensures in
    let narrowed = subst (λ (n : Narrowed). IsNarrowed P c.args.self.now.row c.args.goal n) c.in-Several.is told.narrowed in
    let watches = subst (λ (b : Held). WatchesOn P b c.watch_call.new.self) told.unchanged c.in_ok-watch_call-in-Several.ensures.watches in
    let both = passed P (nat_lt 0 c.args.left) c.args.self.now c.watch_call.new.self c.pass.new.self c.args.goal Several c.requires.at
    watches c.in_ok-pass-in-Several.ensures.moved c.in_ok-pass-in-Several.ensures.passed
    (λ may. idle_several P c.args.self.now.limit c.args.self.now.row c.args.goal c.requires.call.0 c.requires.call.1 narrowed) in
    both.1

pub returns-in_ok-pass-in-Several-clause-came_to : goal.returns-in_ok-pass-in-Several-clause-came_to
returns-in_ok-pass-in-Several-clause-came_to g c =
    let P = g.N.Naming.program in
    let told = c.in_ok-narrow_call.ensures in
    let narrowed = subst (λ (n : Narrowed). IsNarrowed P c.args.self.now.row c.args.goal n) c.in-Several.is told.narrowed in
    let watches = subst (λ (b : Held). WatchesOn P b c.watch_call.new.self) told.unchanged c.in_ok-watch_call-in-Several.ensures.watches in
    let both = passed P (nat_lt 0 c.args.left) c.args.self.now c.watch_call.new.self c.pass.new.self c.args.goal Several c.requires.at
    watches c.in_ok-pass-in-Several.ensures.moved c.in_ok-pass-in-Several.ensures.passed
    (λ may. idle_several P c.args.self.now.limit c.args.self.now.row c.args.goal c.requires.call.0 c.requires.call.1 narrowed) in
    both.0
