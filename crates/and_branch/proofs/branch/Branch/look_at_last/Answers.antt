use Rattle.std.proofs.Common.{ℕ, ◌≡◌, ◌+◌, ◌≤◌, ◌<◌, Bool, true, false, List, IfOk, inl, nat_lt, refl, ap, sym, ◌∙◌, subst, arith}
use Rattle.std.proofs.lemmas.Bool.{true≢false}
use Rattle.std.proofs.lemmas.Bool.Decides.{nat_tests}
use Rattle.and_model.specs.Programs.{clause_at, clause_weight}
use Rattle.and_model.specs.declared.reference.Ref.{Ref}
use Rattle.and_cells.specs.Ranges.{NamedProgram}
use Rattle.and_branch_parts.specs.Branches.{Held}
use Rattle.and_branch_parts.specs.Rounds.{IsAtMost, LookIs}
use Rattle.and_branch_parts.specs.declared.finding.Seen.TheVariants.{NotJudged}
use Rattle.and_branch_parts.proofs.LookedGoals.{passed, steps_then}
use Rattle.and_branch_parts.proofs.WatchedGoals.{watches_still}
use Rattle.and_branch.specs.Bodies.{with_next}
use Rattle.and_branch.proofs.CallsInHand.{at_in_hand, same_row, same_used, steps_in_hand}
use Rattle.and_branch.proofs.branch.Branch.look_at_last.Goals as goal

pub look_at_heavy-requires-clause-no_room : goal.look_at_heavy-requires-clause-no_room
look_at_heavy-requires-clause-no_room g c = λ room.
    let same = ap (λ (p : NamedProgram). clause_weight (clause_at p.program c.args.clause.0)) (sym c.requires.program) in
    c.has_room.ensures.no_room c.if-not-has_room.true
    (subst (λ (n : ℕ). c.args.self.now.used + n ≤ c.args.self.now.limit) (sym (c.weight-weight.ensures ∙ same)) room)

pub returns-then-not-has_room-clause-came_to : goal.returns-then-not-has_room-clause-came_to
returns-then-not-has_room-clause-came_to g c =
    let may : nat_lt 0 c.args.left ≡ true = let some = c.if-not-may.false in grind (arith, nat_tests) in
    subst (λ (may : Bool). IfOk c.look_at_heavy.result (λ l. LookIs g.N.Naming.program may c.args.self.now c.look_at_heavy.new.self l))
    (sym may) c.look_at_heavy.ensures.came_to

pub run_on-requires-clause-call : goal.run_on-requires-clause-call
run_on-requires-clause-call g c =
    let P = g.N.Naming.program in
    let at = c.requires.at in
    let dropped = c.drop_next.ensures.dropped c.args.goal at.rest at.next in
    λ _ _. at_in_hand P c.args.self.now c.drop_next.new.self c.args.goal at.rest at.next dropped c.args.called.0 at c.requires.call.0
    c.requires.call.1 c.requires.node

pub run_on-requires-clause-last : goal.run_on-requires-clause-last
run_on-requires-clause-last g c =
    let P = g.N.Naming.program in
    let at = c.requires.at in
    let dropped = c.drop_next.ensures.dropped c.args.goal at.rest at.next in
    let row = same_row P c.args.self.now c.drop_next.new.self c.args.goal at.rest at.next dropped in
    λ _ _. subst (λ (r : List Ref). IsAtMost P r c.args.goal c.args.clause.0) (sym row) c.requires.last

pub run_on-requires-clause-room : goal.run_on-requires-clause-room
run_on-requires-clause-room g c =
    let P = g.N.Naming.program in
    let at = c.requires.at in
    let dropped = c.drop_next.ensures.dropped c.args.goal at.rest at.next in
    let weight = c.weight-weight.ensures ∙ ap (λ (p : NamedProgram). clause_weight (clause_at p.program c.args.clause.0))
    (sym c.requires.program) in
    let room = c.has_room.ensures.room c.if-not-has_room.false in
    let used = ap (λ (b : Held). b.used) dropped.others in
    let limit = ap (λ (b : Held). b.limit) dropped.others in
    λ _ _. omega arith

pub run_on-requires-clause-left : goal.run_on-requires-clause-left
run_on-requires-clause-left g c = let some = c.if-not-may.false in λ _ _. grind (arith, nat_tests)

pub returns-clause-steps : goal.returns-clause-steps
returns-clause-steps g c =
    let P = g.N.Naming.program in
    let at = c.requires.at in
    let dropped = c.drop_next.ensures.dropped c.args.goal at.rest at.next in
    steps_then P c.args.self.now (with_next c.args.goal c.drop_next.new.self) c.run_on.new.self
    (steps_in_hand P c.args.self.now c.drop_next.new.self c.args.goal at.rest at.next dropped) c.in_ok-taken.ensures.steps

pub returns-clause-came_to : goal.returns-clause-came_to
returns-clause-came_to g c =
    let P = g.N.Naming.program in
    let at = c.requires.at in
    let dropped = c.drop_next.ensures.dropped c.args.goal at.rest at.next in
    let used = same_used P c.args.self.now c.drop_next.new.self c.args.goal at.rest at.next dropped in
    let grows : c.args.self.now.used < c.run_on.new.self.used = let more = c.in_ok-taken.ensures.used in omega arith in
    let may : nat_lt 0 c.args.left ≡ true = let some = c.if-not-may.false in grind (arith, nat_tests) in
    ((c.goals_are_few.ensures, inl grows), may, grows, c.in_ok-taken.ensures.taken.0)

pub returns-then-not-may-clause-steps : goal.returns-then-not-may-clause-steps
returns-then-not-may-clause-steps g c =
    let none : nat_lt 0 c.args.left ≡ false = let low = c.if-not-may.true in grind (arith, nat_tests) in
    let both = passed g.N.Naming.program (nat_lt 0 c.args.left) c.args.self.now c.args.self.now c.pass.new.self c.args.goal NotJudged c.requires.at
    (watches_still g.N.Naming.program c.args.self.now c.args.self.now refl)
    c.in_ok-pass.ensures.moved c.in_ok-pass.ensures.passed (λ may. absurd (true≢false (sym may ∙ none))) in
    both.1

pub returns-then-not-may-clause-came_to : goal.returns-then-not-may-clause-came_to
returns-then-not-may-clause-came_to g c =
    let none : nat_lt 0 c.args.left ≡ false = let low = c.if-not-may.true in grind (arith, nat_tests) in
    let both = passed g.N.Naming.program (nat_lt 0 c.args.left) c.args.self.now c.args.self.now c.pass.new.self c.args.goal NotJudged c.requires.at
    (watches_still g.N.Naming.program c.args.self.now c.args.self.now refl)
    c.in_ok-pass.ensures.moved c.in_ok-pass.ensures.passed (λ may. absurd (true≢false (sym may ∙ none))) in
    both.0
