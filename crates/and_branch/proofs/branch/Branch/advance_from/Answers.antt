use Rattle.std.proofs.Common.{Option, sym, subst}
use Rattle.std.proofs.lemmas.Result.{on_ok_weaker}
use Rattle.and_branch_parts.specs.Branches.{Held}
use Rattle.and_branch_parts.specs.Rounds.{IsStill, HasStilled}
use Rattle.and_branch_parts.specs.declared.finding.RoundSoFar.{RoundSoFar}
use Rattle.and_branch_parts.proofs.KeptOrigins.{on_ok_kept}
use Rattle.and_branch_parts.proofs.LoadedPrograms.{is_loaded}
use Rattle.and_branch_parts.proofs.LookedGoals.{still_branch}
use Rattle.and_branch_parts.proofs.RoundsDone
use Rattle.and_branch.proofs.StilledBranches.{failed_state, told_steps, told_state, told_at_rest}
use Rattle.and_branch.proofs.branch.Branch.advance_from.Goals as goal

pub told-requires-clause-branch : goal.told-requires-clause-branch
told-requires-clause-branch g c =
    still_branch g.N.Naming.program c.args.self.now c.go_rounds.new.self c.in_ok-found.ensures.steps c.requires.branch

pub told-requires-clause-live : goal.told-requires-clause-live
told-requires-clause-live g c =
    let P = g.N.Naming.program in
    let stilled = subst (λ (r : Option RoundSoFar). HasStilled P c.go_rounds.new.self r) c.in-Some.is c.in_ok-found.ensures.stilled in
    stilled.live

pub told-requires-clause-rests : goal.told-requires-clause-rests
told-requires-clause-rests g c =
    let P = g.N.Naming.program in
    let stilled = subst (λ (r : Option RoundSoFar). HasStilled P c.go_rounds.new.self r) c.in-Some.is c.in_ok-found.ensures.stilled in
    stilled.rests

pub told-requires-clause-found : goal.told-requires-clause-found
told-requires-clause-found g c =
    let P = g.N.Naming.program in
    let stilled = subst (λ (r : Option RoundSoFar). HasStilled P c.go_rounds.new.self r) c.in-Some.is c.in_ok-found.ensures.stilled in
    stilled.has

pub returns-in-Some-clause-steps : goal.returns-in-Some-clause-steps
returns-in-Some-clause-steps g c =
    told_steps g.N.Naming.program c.go_rounds.new.self c.told.new.self c.args.self.now c.told.result c.told.ensures.stays
    c.in_ok-found.ensures.steps

pub returns-in-Some-clause-judged : goal.returns-in-Some-clause-judged
returns-in-Some-clause-judged g c =
    told_state g.N.Naming.program c.go_rounds.new.self c.told.new.self c.told.result c.told.ensures.stays c.told.ensures.judged

pub returns-in-Some-clause-at_rest : goal.returns-in-Some-clause-at_rest
returns-in-Some-clause-at_rest g c =
    let P = g.N.Naming.program in
    let stilled = subst (λ (r : Option RoundSoFar). HasStilled P c.go_rounds.new.self r) c.in-Some.is c.in_ok-found.ensures.stilled in
    told_at_rest P c.go_rounds.new.self c.told.new.self c.told.result c.told.ensures.stays stilled.still

pub returns-in-Some-clause-done : goal.returns-in-Some-clause-done
returns-in-Some-clause-done g c =
    let P = g.N.Naming.program in
    let says = c.skeleton_is_of_the_program.ensures in
    let loaded = is_loaded P c.args.loaded.now c.requires.program says.skeleton says.own_variables says.few in
    let stilled = subst (λ (r : Option RoundSoFar). HasStilled P c.go_rounds.new.self r) c.in-Some.is c.in_ok-found.ensures.stilled in
    on_ok_weaker c.told.result (λ e t o k x state.
    RoundsDone.still_branch P loaded c.told.new.self t x (subst (λ (b : Held). IsStill P b) (sym e) stilled.still) o k state)
    c.told.ensures.stays

pub returns-in-None-clause-steps : goal.returns-in-None-clause-steps
returns-in-None-clause-steps g c = let on = c.in_ok-found.ensures.steps in on.each

pub returns-in-None-clause-judged : goal.returns-in-None-clause-judged
returns-in-None-clause-judged g c =
    let P = g.N.Naming.program in
    let stilled = subst (λ (r : Option RoundSoFar). HasStilled P c.go_rounds.new.self r) c.in-None.is c.in_ok-found.ensures.stilled in
    failed_state P c.go_rounds.new.self stilled

pub returns-in-None-clause-done : goal.returns-in-None-clause-done
returns-in-None-clause-done g c = λ t o k x state.
    let P = g.N.Naming.program in
    let stilled = subst (λ (r : Option RoundSoFar). HasStilled P c.go_rounds.new.self r) c.in-None.is c.in_ok-found.ensures.stilled in
    RoundsDone.failed_branch P c.go_rounds.new.self t x stilled o k state

pub returns-in-Some-clause-back : goal.returns-in-Some-clause-back
returns-in-Some-clause-back g c =
    let on = c.in_ok-found.ensures.steps in
    on_ok_kept c.args.self.now c.go_rounds.new.self c.told.new.self c.told.result c.told.ensures.stays on.back

pub returns-in-None-clause-back : goal.returns-in-None-clause-back
returns-in-None-clause-back g c = let on = c.in_ok-found.ensures.steps in on.back
