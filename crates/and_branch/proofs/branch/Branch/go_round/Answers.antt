use Rattle.std.proofs.Common.{◌≡◌, nat_lt, true, false, ap, sym, refl, ◌∙◌, subst, arith, rules}
use Rattle.std.proofs.lemmas.Bool.Decides.{nat_tests}
use Rattle.and_branch_parts.specs.Branches.{Held}
use Rattle.and_branch_parts.specs.Finding.{with_passed}
use Rattle.and_branch_parts.specs.Rounds.{LookIs}
use Rattle.and_branch_parts.specs.Ways.{HasCome}
use Rattle.and_branch_parts.specs.declared.rounds.Looked.{Looked}
use Rattle.and_branch_parts.proofs.GoalsRun.{branch_fits}
use Rattle.and_branch_parts.proofs.LoadedPrograms.{is_loaded}
use Rattle.and_branch_parts.proofs.LookedGoals.{moved_steps, steps_then, still_branch}
use Rattle.and_branch_parts.proofs.MovedBranches.{moved_twice}
use Rattle.and_branch_parts.proofs.RoundsKept.{RoundStands, round_begun, round_passed, round_changed, round_ended, past_idle, alike_then, moved_alike}
use Rattle.and_branch_parts.proofs.WaysGone.{has_come, share_at, over_back, has_noted, fewer_passed, fewer_ran, fewer_reduced, fewer_back, round_moved}
use Rattle.and_branch.proofs.branch.Branch.go_round.Goals as goal

pub goals-init : goal.goals-init
goals-init g c =
    let P = g.N.Naming.program in
    let moved = moved_twice c.args.self.now c.rewind.new.self c.clear_out.new.self c.in_ok-rewind.ensures.moved c.clear_out.ensures.moved in
    let branch = still_branch P c.args.self.now c.clear_out.new.self
    (moved_steps P c.args.self.now c.clear_out.new.self moved) c.requires.branch in record {
      stands = round_begun P c.clear_out.new.self c.of-share.result.left branch (c.clear_out.ensures.left ∙ c.in_ok-rewind.ensures.first)
          (let left = c.of-share.ensures.left in let some = c.requires.most in omega arith);
      back = λ e. absurd (cc);
      some = let most = c.of-share.ensures.most in let some = c.requires.most in omega arith;
    }

pub returns-then-not-branch-clause-steps : goal.returns-then-not-branch-clause-steps
returns-then-not-branch-clause-steps g c =
    let P = g.N.Naming.program in
    let moved = moved_twice c.args.self.now c.rewind.new.self c.clear_out.new.self c.in_ok-rewind.ensures.moved c.clear_out.ensures.moved in
    steps_then P c.args.self.now c.clear_out.new.self c.come_to_next.new.self (moved_steps P c.args.self.now c.clear_out.new.self moved)
    (steps_then P c.clear_out.new.self c.goals.self c.come_to_next.new.self c.goals.invariant.stands.steps c.in_ok-come_to_next.ensures.steps)

pub returns-then-not-branch-clause-came_to : goal.returns-then-not-branch-clause-came_to
returns-then-not-branch-clause-came_to g c =
    let P = g.N.Naming.program in
    let moved = moved_twice c.args.self.now c.rewind.new.self c.clear_out.new.self c.in_ok-rewind.ensures.moved c.clear_out.ensures.moved in
    let says = c.skeleton_is_of_the_program.ensures in
    let loaded = is_loaded P c.args.loaded.now c.requires.program says.skeleton says.own_variables says.few in
    let come = has_come P loaded c.clear_out.new.self c.goals.self c.come_to_next.new.self c.goals.way c.in_ok-come_to_next.field-0 c.goals.changed
    c.goals.share c.goals.heavy c.goals.invariant c.come_to_next.ensures.same c.in_ok-come_to_next.ensures.steps c.in_ok-come_to_next.ensures.came in
    let none : c.in_ok-come_to_next.field-0 ≡ false = search rules in
    let changed = over_back P c.clear_out.new.self c.goals.self c.come_to_next.new.self c.goals.way c.in_ok-come_to_next.field-0 c.goals.changed
    c.goals.share c.goals.heavy c.goals.invariant c.in_ok-come_to_next.ensures.came none in
    alike_then c.args.self.now c.clear_out.new.self c.come_to_next.new.self (moved_alike c.args.self.now c.clear_out.new.self moved)
    (come.stands.progress changed)

pub look-requires-clause-branch : goal.look-requires-clause-branch
look-requires-clause-branch g c =
    let P = g.N.Naming.program in
    λ _ _. still_branch P c.goals.self c.come_to_next.new.self c.in_ok-come_to_next.ensures.steps c.goals.invariant.stands.branch

pub round_ended-round-requires-clause-branch : goal.round_ended-round-requires-clause-branch
round_ended-round-requires-clause-branch g c =
    let P = g.N.Naming.program in
    let says = c.skeleton_is_of_the_program.ensures in
    let loaded = is_loaded P c.args.loaded.now c.requires.program says.skeleton says.own_variables says.few in
    let came = has_come P loaded c.clear_out.new.self c.goals.self c.come_to_next.new.self c.goals.way c.in_ok-come_to_next.field-0 c.goals.changed
    c.goals.share c.goals.heavy c.goals.invariant c.come_to_next.ensures.same c.in_ok-come_to_next.ensures.steps c.in_ok-come_to_next.ensures.came in
    let come = share_at P c.clear_out.new.self c.come_to_next.new.self c.goals.way c.goals.changed c.goals.share c.at-share.result c.count_ahead.result
    c.goals.heavy came c.at-share.ensures.next c.at-share.ensures.same in
    still_branch P c.come_to_next.new.self c.look.new.self c.in_ok-look.ensures.steps come.stands.branch

pub round_ended-round-requires-clause-live : goal.round_ended-round-requires-clause-live
round_ended-round-requires-clause-live g c =
    let P = g.N.Naming.program in
    let looked = subst (λ (l : Looked). LookIs P
    (nat_lt 0 c.at-share.result.left) c.come_to_next.new.self c.look.new.self l) c.in-Ended.is c.in_ok-look.ensures.came_to in
    ap (λ (b : Held). b.is_failed) looked.0 ∙ looked.2

pub round_ended-round-requires-clause-past : goal.round_ended-round-requires-clause-past
round_ended-round-requires-clause-past g c =
    let P = g.N.Naming.program in
    let looked = subst (λ (l : Looked). LookIs P
    (nat_lt 0 c.at-share.result.left) c.come_to_next.new.self c.look.new.self l) c.in-Ended.is c.in_ok-look.ensures.came_to in
    ap (λ (b : Held). b.right) looked.0 ∙ looked.1

pub round_ended-round-requires-clause-seen : goal.round_ended-round-requires-clause-seen
round_ended-round-requires-clause-seen g c =
    let P = g.N.Naming.program in
    let says = c.skeleton_is_of_the_program.ensures in
    let loaded = is_loaded P c.args.loaded.now c.requires.program says.skeleton says.own_variables says.few in
    let came = has_come P loaded c.clear_out.new.self c.goals.self c.come_to_next.new.self c.goals.way c.in_ok-come_to_next.field-0 c.goals.changed
    c.goals.share c.goals.heavy c.goals.invariant c.come_to_next.ensures.same c.in_ok-come_to_next.ensures.steps c.in_ok-come_to_next.ensures.came in
    let come = share_at P c.clear_out.new.self c.come_to_next.new.self c.goals.way c.goals.changed c.goals.share c.at-share.result c.count_ahead.result
    c.goals.heavy came c.at-share.ensures.next c.at-share.ensures.same in
    let looked = subst (λ (l : Looked). LookIs P
    (nat_lt 0 c.at-share.result.left) c.come_to_next.new.self c.look.new.self l) c.in-Ended.is c.in_ok-look.ensures.came_to in
    let stands = subst (λ (b : Held). RoundStands P c.clear_out.new.self b c.goals.changed c.at-share.result.left c.goals.heavy) (sym looked.0) come.stands in
    past_idle P c.clear_out.new.self c.look.new.self c.goals.changed c.at-share.result.left c.goals.heavy stands
    (ap (λ (b : Held). b.is_failed) looked.0 ∙ looked.2)

pub returns-then-not-turns_back-clause-steps : goal.returns-then-not-turns_back-clause-steps
returns-then-not-turns_back-clause-steps g c =
    let P = g.N.Naming.program in
    let moved = moved_twice c.args.self.now c.rewind.new.self c.clear_out.new.self c.in_ok-rewind.ensures.moved c.clear_out.ensures.moved in
    steps_then P c.args.self.now c.clear_out.new.self c.look.new.self (moved_steps P c.args.self.now c.clear_out.new.self moved)
    (steps_then P c.clear_out.new.self c.goals.self c.look.new.self c.goals.invariant.stands.steps
    (steps_then P c.goals.self c.come_to_next.new.self c.look.new.self c.in_ok-come_to_next.ensures.steps c.in_ok-look.ensures.steps))

pub returns-then-not-turns_back-clause-came_to : goal.returns-then-not-turns_back-clause-came_to
returns-then-not-turns_back-clause-came_to g c =
    let P = g.N.Naming.program in
    let says = c.skeleton_is_of_the_program.ensures in
    let loaded = is_loaded P c.args.loaded.now c.requires.program says.skeleton says.own_variables says.few in
    let came = has_come P loaded c.clear_out.new.self c.goals.self c.come_to_next.new.self c.goals.way c.in_ok-come_to_next.field-0 c.goals.changed
    c.goals.share c.goals.heavy c.goals.invariant c.come_to_next.ensures.same c.in_ok-come_to_next.ensures.steps c.in_ok-come_to_next.ensures.came in
    let come = share_at P c.clear_out.new.self c.come_to_next.new.self c.goals.way c.goals.changed c.goals.share c.at-share.result c.count_ahead.result
    c.goals.heavy came c.at-share.ensures.next c.at-share.ensures.same in
    let looked = subst (λ (l : Looked). LookIs P
    (nat_lt 0 c.at-share.result.left) c.come_to_next.new.self c.look.new.self l) c.in-Ended.is c.in_ok-look.ensures.came_to in
    let moved = moved_twice c.args.self.now c.rewind.new.self c.clear_out.new.self c.in_ok-rewind.ensures.moved c.clear_out.ensures.moved in
    let stands = subst (λ (b : Held). RoundStands P c.clear_out.new.self b c.goals.changed c.at-share.result.left c.goals.heavy) (sym looked.0) come.stands in
    round_ended P c.args.self.now c.clear_out.new.self c.look.new.self c.goals.changed c.at-share.result.left c.goals.heavy c.round_ended-round.result
    moved stands c.round_ended-round.ensures.changed c.round_ended-round.ensures.still c.round_ended-round.ensures.never

pub goals-smaller-in-Ended : goal.goals-smaller-in-Ended
goals-smaller-in-Ended g c =
    let P = g.N.Naming.program in
    let says = c.skeleton_is_of_the_program.ensures in
    let loaded = is_loaded P c.args.loaded.now c.requires.program says.skeleton says.own_variables says.few in
    let came = has_come P loaded c.clear_out.new.self c.goals.self c.come_to_next.new.self c.goals.way c.in_ok-come_to_next.field-0 c.goals.changed
    c.goals.share c.goals.heavy c.goals.invariant c.come_to_next.ensures.same c.in_ok-come_to_next.ensures.steps c.in_ok-come_to_next.ensures.came in
    let come = share_at P c.clear_out.new.self c.come_to_next.new.self c.goals.way c.goals.changed c.goals.share c.at-share.result c.count_ahead.result
    c.goals.heavy came c.at-share.ensures.next c.at-share.ensures.same in
    let looked = subst (λ (l : Looked). LookIs P
    (nat_lt 0 c.at-share.result.left) c.come_to_next.new.self c.look.new.self l) c.in-Ended.is c.in_ok-look.ensures.came_to in
    let stands = subst (λ (b : Held). RoundStands P c.clear_out.new.self b c.goals.changed c.at-share.result.left c.goals.heavy) (sym looked.0) come.stands in
    let turned = c.turns_back.ensures (search rules) in
    let changed = c.round_ended-round.ensures.changed turned.1 in
    let there : c.in_ok-come_to_next.field-0 ≡ true = search rules in
    let at = subst (HasCome P c.goals.way c.goals.self c.come_to_next.new.self) there c.in_ok-come_to_next.ensures.came in
    fewer_back P c.goals.self c.come_to_next.new.self c.look.new.self c.goals.way at looked.0 turned.0 (stands.progress changed).0

pub goals-preserved-in-Ended : goal.goals-preserved-in-Ended
goals-preserved-in-Ended g c =
    let P = g.N.Naming.program in
    let says = c.skeleton_is_of_the_program.ensures in
    let loaded = is_loaded P c.args.loaded.now c.requires.program says.skeleton says.own_variables says.few in
    let came = has_come P loaded c.clear_out.new.self c.goals.self c.come_to_next.new.self c.goals.way c.in_ok-come_to_next.field-0 c.goals.changed
    c.goals.share c.goals.heavy c.goals.invariant c.come_to_next.ensures.same c.in_ok-come_to_next.ensures.steps c.in_ok-come_to_next.ensures.came in
    let come = share_at P c.clear_out.new.self c.come_to_next.new.self c.goals.way c.goals.changed c.goals.share c.at-share.result c.count_ahead.result
    c.goals.heavy came c.at-share.ensures.next c.at-share.ensures.same in
    let looked = subst (λ (l : Looked). LookIs P
    (nat_lt 0 c.at-share.result.left) c.come_to_next.new.self c.look.new.self l) c.in-Ended.is c.in_ok-look.ensures.came_to in
    let stands = subst (λ (b : Held). RoundStands P c.clear_out.new.self b c.goals.changed c.at-share.result.left c.goals.heavy) (sym looked.0) come.stands in
    let turned = c.turns_back.ensures (search rules) in
    let changed = c.round_ended-round.ensures.changed turned.1 in
    record { stands = stands; back = λ _. changed; some = come.some }

pub goals-smaller-in-Passed : goal.goals-smaller-in-Passed
goals-smaller-in-Passed g c =
    let P = g.N.Naming.program in
    let there : c.in_ok-come_to_next.field-0 ≡ true = search rules in
    let at = subst (HasCome P c.goals.way c.goals.self c.come_to_next.new.self) there c.in_ok-come_to_next.ensures.came in
    let looked = subst (λ (l : Looked). LookIs P
    (nat_lt 0 c.at-share.result.left) c.come_to_next.new.self c.look.new.self l) c.in-Passed.is c.in_ok-look.ensures.came_to in
    fewer_passed P (nat_lt 0 c.at-share.result.left) c.goals.self c.come_to_next.new.self c.look.new.self c.note_passed.new.self c.goals.way
    c.in-Passed.goal c.in-Passed.seen _ c.in_ok-heavy-in-Passed.heavy at looked c.in_ok-heavy-in-Passed.ensures.noted

pub goals-preserved-in-Passed : goal.goals-preserved-in-Passed
goals-preserved-in-Passed g c =
    let P = g.N.Naming.program in
    let says = c.skeleton_is_of_the_program.ensures in
    let loaded = is_loaded P c.args.loaded.now c.requires.program says.skeleton says.own_variables says.few in
    let came = has_come P loaded c.clear_out.new.self c.goals.self c.come_to_next.new.self c.goals.way c.in_ok-come_to_next.field-0 c.goals.changed
    c.goals.share c.goals.heavy c.goals.invariant c.come_to_next.ensures.same c.in_ok-come_to_next.ensures.steps c.in_ok-come_to_next.ensures.came in
    let come = share_at P c.clear_out.new.self c.come_to_next.new.self c.goals.way c.goals.changed c.goals.share c.at-share.result c.count_ahead.result
    c.goals.heavy came c.at-share.ensures.next c.at-share.ensures.same in
    let looked = subst (λ (l : Looked). LookIs P
    (nat_lt 0 c.at-share.result.left) c.come_to_next.new.self c.look.new.self l) c.in-Passed.is c.in_ok-look.ensures.came_to in
    let more = with_passed c.goals.heavy c.in-Passed.goal c.in-Passed.seen in
    let passed = round_passed P c.clear_out.new.self c.come_to_next.new.self c.look.new.self c.goals.changed (nat_lt 0 c.at-share.result.left)
    c.at-share.result.left
    c.goals.heavy more c.in-Passed.goal c.in-Passed.seen refl
    (λ some. grind (arith, nat_tests)) come.stands c.look.ensures.same c.in_ok-look.ensures.steps looked in
    has_noted P c.clear_out.new.self c.look.new.self c.note_passed.new.self c.goals.way c.goals.changed c.at-share.result c.goals.heavy more
    c.in_ok-heavy-in-Passed.heavy c.goals.invariant.back come.some passed c.note_passed.ensures.same c.in_ok-heavy-in-Passed.ensures.noted

pub goals-smaller-in_ok-turn_to_woken-in-Ran : goal.goals-smaller-in_ok-turn_to_woken-in-Ran
goals-smaller-in_ok-turn_to_woken-in-Ran g c =
    let P = g.N.Naming.program in
    let there : c.in_ok-come_to_next.field-0 ≡ true = search rules in
    let at = subst (HasCome P c.goals.way c.goals.self c.come_to_next.new.self) there c.in_ok-come_to_next.ensures.came in
    let looked = subst (λ (l : Looked). LookIs P
    (nat_lt 0 c.at-share.result.left) c.come_to_next.new.self c.look.new.self l) c.in-Ran.is c.in_ok-look.ensures.came_to in
    fewer_ran P c.goals.self c.come_to_next.new.self c.look.new.self c.turn_to_woken.new.self c.goals.way at c.look.ensures.same looked
    c.in_ok-turn_to_woken-in-Ran.ensures.moved c.in_ok-turn_to_woken-in-Ran.ensures.near

pub goals-preserved-in_ok-turn_to_woken-in-Ran : goal.goals-preserved-in_ok-turn_to_woken-in-Ran
goals-preserved-in_ok-turn_to_woken-in-Ran g c =
    let P = g.N.Naming.program in
    let says = c.skeleton_is_of_the_program.ensures in
    let loaded = is_loaded P c.args.loaded.now c.requires.program says.skeleton says.own_variables says.few in
    let came = has_come P loaded c.clear_out.new.self c.goals.self c.come_to_next.new.self c.goals.way c.in_ok-come_to_next.field-0 c.goals.changed
    c.goals.share c.goals.heavy c.goals.invariant c.come_to_next.ensures.same c.in_ok-come_to_next.ensures.steps c.in_ok-come_to_next.ensures.came in
    let come = share_at P c.clear_out.new.self c.come_to_next.new.self c.goals.way c.goals.changed c.goals.share c.at-share.result c.count_ahead.result
    c.goals.heavy came c.at-share.ensures.next c.at-share.ensures.same in
    let looked = subst (λ (l : Looked). LookIs P
    (nat_lt 0 c.at-share.result.left) c.come_to_next.new.self c.look.new.self l) c.in-Ran.is c.in_ok-look.ensures.came_to in
    let ran = round_changed P c.clear_out.new.self c.come_to_next.new.self c.look.new.self c.goals.changed c.at-share.result.left
    c.at-share.result.left c.goals.heavy come.stands c.look.ensures.same c.in_ok-look.ensures.steps looked.0 in
    record {
      stands = round_moved P c.clear_out.new.self c.look.new.self c.turn_to_woken.new.self true c.at-share.result.left c.goals.heavy c.goals.heavy
          refl ran c.turn_to_woken.ensures.same c.in_ok-turn_to_woken-in-Ran.ensures.moved;
      back = λ _. refl;
      some = come.some;
    }

pub goals-smaller : goal.goals-smaller
goals-smaller g c =
    let P = g.N.Naming.program in
    let looked = subst (λ (l : Looked). LookIs P
    (nat_lt 0 c.at-share.result.left) c.come_to_next.new.self c.look.new.self l) c.in-Reduced.is c.in_ok-look.ensures.came_to in
    let there : c.in_ok-come_to_next.field-0 ≡ true = search rules in
    let at = subst (HasCome P c.goals.way c.goals.self c.come_to_next.new.self) there c.in_ok-come_to_next.ensures.came in
    let come = still_branch P c.goals.self c.come_to_next.new.self c.in_ok-come_to_next.ensures.steps c.goals.invariant.stands.branch in
    let branch = still_branch P c.come_to_next.new.self c.look.new.self c.in_ok-look.ensures.steps come in
    fewer_reduced P c.goals.self c.come_to_next.new.self c.look.new.self c.goals.way at c.look.ensures.same
    (branch_fits P c.look.new.self branch.0 branch.1) looked.2 looked.0.0

pub goals-preserved : goal.goals-preserved
goals-preserved g c =
    let P = g.N.Naming.program in
    let says = c.skeleton_is_of_the_program.ensures in
    let loaded = is_loaded P c.args.loaded.now c.requires.program says.skeleton says.own_variables says.few in
    let came = has_come P loaded c.clear_out.new.self c.goals.self c.come_to_next.new.self c.goals.way c.in_ok-come_to_next.field-0 c.goals.changed
    c.goals.share c.goals.heavy c.goals.invariant c.come_to_next.ensures.same c.in_ok-come_to_next.ensures.steps c.in_ok-come_to_next.ensures.came in
    let come = share_at P c.clear_out.new.self c.come_to_next.new.self c.goals.way c.goals.changed c.goals.share c.at-share.result c.count_ahead.result
    c.goals.heavy came c.at-share.ensures.next c.at-share.ensures.same in
    let looked = subst (λ (l : Looked). LookIs P
    (nat_lt 0 c.at-share.result.left) c.come_to_next.new.self c.look.new.self l) c.in-Reduced.is c.in_ok-look.ensures.came_to in
    record {
      stands = round_changed P c.clear_out.new.self c.come_to_next.new.self c.look.new.self c.goals.changed c.at-share.result.left
          _ c.goals.heavy
          come.stands c.look.ensures.same c.in_ok-look.ensures.steps looked.0;
      back = λ _. refl;
      some = come.some;
    }

pub returns-in-Failed-clause-steps : goal.returns-in-Failed-clause-steps
returns-in-Failed-clause-steps g c =
    let P = g.N.Naming.program in
    let moved = moved_twice c.args.self.now c.rewind.new.self c.clear_out.new.self c.in_ok-rewind.ensures.moved c.clear_out.ensures.moved in
    steps_then P c.args.self.now c.clear_out.new.self c.look.new.self (moved_steps P c.args.self.now c.clear_out.new.self moved)
    (steps_then P c.clear_out.new.self c.goals.self c.look.new.self c.goals.invariant.stands.steps
    (steps_then P c.goals.self c.come_to_next.new.self c.look.new.self c.in_ok-come_to_next.ensures.steps c.in_ok-look.ensures.steps))
