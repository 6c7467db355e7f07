use Rattle.std.proofs.Common.{ℕ, ◌+◌, ◌≤◌, Ok, ap, sym, ◌∙◌, subst, arith}
use Rattle.std.proofs.lemmas.Result.{on_ok_weaker}
use Rattle.and_model.specs.Programs.{clause_at, clause_weight}
use Rattle.and_laws.proofs.Order.{clause_weighs}
use Rattle.and_cells.specs.Ranges.{NamedProgram}
use Rattle.and_reduction.specs.Items.{AreItemsOf, IsHeadOf}
use Rattle.and_branch_parts.specs.Branches.{Held}
use Rattle.and_branch_parts.specs.Rounds.{StepsOn}
use Rattle.and_branch_parts.proofs.LoadedPrograms.{is_loaded}
use Rattle.and_branch_parts.proofs.LookedGoals.{steps_then, still_branch}
use Rattle.and_branch.specs.Bodies.{with_body, with_next}
use Rattle.and_branch.proofs.CallsInHand.{ready_in_hand, entered_in_hand, failed_in_hand, no_step_to}
use Rattle.and_branch.proofs.branch.Branch.reduce_call.Goals as goal

pub enter_goal-requires-clause-next : goal.enter_goal-requires-clause-next
enter_goal-requires-clause-next g c =
    let P = g.N.Naming.program in
    let says = c.skeleton_is_of_the_program.ensures in
    let loaded = is_loaded P c.args.loaded.now c.requires.program says.skeleton says.own_variables says.few in
    let weight = c.weight-weight.ensures ∙ ap (λ (p : NamedProgram). clause_weight (clause_at p.program c.args.clause.0))
    (sym c.requires.program) in
    let room = subst (λ (w : ℕ). c.args.self.now.used + w ≤ c.args.self.now.limit) weight
    (c.has_room.ensures.room c.if-not-has_room.false) in
    ready_in_hand P loaded c.args.self.now c.args.goal c.args.called.0 c.requires.call c.args.clause.0 c.requires.last room

pub enter_goal-requires-clause-weight : goal.enter_goal-requires-clause-weight
enter_goal-requires-clause-weight g c =
    c.weight-weight.ensures ∙ ap (λ (p : NamedProgram). clause_weight (clause_at p.program c.args.clause.0)) (sym c.requires.program)

pub enter_goal-requires-clause-head : goal.enter_goal-requires-clause-head
enter_goal-requires-clause-head g c =
    subst (λ (p : NamedProgram). IsHeadOf p c.args.clause.0 c.head-head.result.0) (sym c.requires.program)
    (c.head-head.ensures.node, c.head-head.ensures.there)

pub enter_goal-requires-clause-items : goal.enter_goal-requires-clause-items
enter_goal-requires-clause-items g c =
    subst (λ (p : NamedProgram). AreItemsOf p c.args.clause.0 c.items-items.result.now) (sym c.requires.program)
    (record { nodes = c.items-items.ensures.items; body = c.items-items.ensures.body })

pub begin_body-requires-clause-items : goal.begin_body-requires-clause-items
begin_body-requires-clause-items g c =
    subst (λ (p : NamedProgram). AreItemsOf p c.args.clause.0 c.items-items.result.now) (sym c.requires.program)
    (record { nodes = c.items-items.ensures.items; body = c.items-items.ensures.body })

pub begin_body-requires-clause-live : goal.begin_body-requires-clause-live
begin_body-requires-clause-live g c =
    c.enter_goal.ensures.live (c.in_ok-enter_goal.was ∙ ap Ok c.in-Solved.is) ∙ c.requires.call.at.live

pub begin_body-requires-clause-branch : goal.begin_body-requires-clause-branch
begin_body-requires-clause-branch g c =
    let P = g.N.Naming.program in
    let says = c.skeleton_is_of_the_program.ensures in
    let loaded = is_loaded P c.args.loaded.now c.requires.program says.skeleton says.own_variables says.few in
    let weight = c.weight-weight.ensures ∙ ap (λ (p : NamedProgram). clause_weight (clause_at p.program c.args.clause.0))
    (sym c.requires.program) in
    let room = subst (λ (w : ℕ). c.args.self.now.used + w ≤ c.args.self.now.limit) weight
    (c.has_room.ensures.room c.if-not-has_room.false) in
    let old = c.args.self.now in
    let node = c.self.inside.used in
    let mid = c.enter_goal.new.self in
    let stepped = entered_in_hand P loaded old c.args.goal c.args.called.0 c.requires.call c.args.clause.0 c.requires.last room mid
    c.enter_goal.ensures.same (c.enter_goal.ensures.entered (c.in_ok-enter_goal.was ∙ ap Ok c.in-Solved.is))
    c.in_ok-enter_goal.ensures.back in
    let steps = subst (λ (k : ℕ). StepsOn P (with_next c.args.goal old) (with_body P c.args.clause.0 k 0 mid))
    (sym (ap (λ (b : Held). b.used) c.self.view_is)) stepped in
    still_branch P (with_next c.args.goal old) (with_body P c.args.clause.0 node 0 mid) steps c.requires.call.at.branch

pub returns-in-Solved-clause-used : goal.returns-in-Solved-clause-used
returns-in-Solved-clause-used g c =
    let entered = c.in_ok-enter_goal.ensures.used in
    on_ok_weaker c.begin_body.result (λ used. omega arith) c.begin_body.ensures.used

pub returns-in-Solved-clause-grows : goal.returns-in-Solved-clause-grows
returns-in-Solved-clause-grows g c = λ room.
    let entered = c.in_ok-enter_goal.ensures.used in
    let some = clause_weighs (clause_at g.N.Naming.program.program c.args.clause.0) in
    on_ok_weaker c.begin_body.result (λ used. omega arith) c.begin_body.ensures.used

pub returns-in-Solved-clause-call : goal.returns-in-Solved-clause-call
returns-in-Solved-clause-call g c = λ h m is.
    let P = g.N.Naming.program in
    let says = c.skeleton_is_of_the_program.ensures in
    let loaded = is_loaded P c.args.loaded.now c.requires.program says.skeleton says.own_variables says.few in
    let weight = c.weight-weight.ensures ∙ ap (λ (p : NamedProgram). clause_weight (clause_at p.program c.args.clause.0))
    (sym c.requires.program) in
    let room = subst (λ (w : ℕ). c.args.self.now.used + w ≤ c.args.self.now.limit) weight
    (c.has_room.ensures.room c.if-not-has_room.false) in
    let old = c.args.self.now in
    let node = c.self.inside.used in
    let mid = c.enter_goal.new.self in
    let stepped = entered_in_hand P loaded old c.args.goal c.args.called.0 c.requires.call c.args.clause.0 c.requires.last room mid
    c.enter_goal.ensures.same (c.enter_goal.ensures.entered (c.in_ok-enter_goal.was ∙ ap Ok c.in-Solved.is))
    c.in_ok-enter_goal.ensures.back in
    let steps = subst (λ (k : ℕ). StepsOn P (with_next c.args.goal old) (with_body P c.args.clause.0 k 0 mid))
    (sym (ap (λ (b : Held). b.used) c.self.view_is)) stepped in
    let (hand, others) = c.begin_body.ensures.call h m is in (
      hand,
      steps_then P (with_next c.args.goal old) (with_body P c.args.clause.0 node 0 mid) (with_next h c.begin_body.new.self) steps others,
    )

pub returns-in-Solved-clause-other : goal.returns-in-Solved-clause-other
returns-in-Solved-clause-other g c = λ is.
    let P = g.N.Naming.program in
    let says = c.skeleton_is_of_the_program.ensures in
    let loaded = is_loaded P c.args.loaded.now c.requires.program says.skeleton says.own_variables says.few in
    let weight = c.weight-weight.ensures ∙ ap (λ (p : NamedProgram). clause_weight (clause_at p.program c.args.clause.0))
    (sym c.requires.program) in
    let room = subst (λ (w : ℕ). c.args.self.now.used + w ≤ c.args.self.now.limit) weight
    (c.has_room.ensures.room c.if-not-has_room.false) in
    let old = c.args.self.now in
    let node = c.self.inside.used in
    let mid = c.enter_goal.new.self in
    let stepped = entered_in_hand P loaded old c.args.goal c.args.called.0 c.requires.call c.args.clause.0 c.requires.last room mid
    c.enter_goal.ensures.same (c.enter_goal.ensures.entered (c.in_ok-enter_goal.was ∙ ap Ok c.in-Solved.is))
    c.in_ok-enter_goal.ensures.back in
    let steps = subst (λ (k : ℕ). StepsOn P (with_next c.args.goal old) (with_body P c.args.clause.0 k 0 mid))
    (sym (ap (λ (b : Held). b.used) c.self.view_is)) stepped in
    steps_then P (with_next c.args.goal old) (with_body P c.args.clause.0 node 0 mid) c.begin_body.new.self steps
    (c.begin_body.ensures.other is)

pub returns-in-NoSolution-clause-used : goal.returns-in-NoSolution-clause-used
returns-in-NoSolution-clause-used g c = let entered = c.in_ok-enter_goal.ensures.used in omega arith

pub returns-in-NoSolution-clause-grows : goal.returns-in-NoSolution-clause-grows
returns-in-NoSolution-clause-grows g c = λ room.
    let entered = c.in_ok-enter_goal.ensures.used in
    let some = clause_weighs (clause_at g.N.Naming.program.program c.args.clause.0) in
    omega arith

pub returns-in-NoSolution-clause-other : goal.returns-in-NoSolution-clause-other
returns-in-NoSolution-clause-other g c = λ _.
    let P = g.N.Naming.program in
    let says = c.skeleton_is_of_the_program.ensures in
    let loaded = is_loaded P c.args.loaded.now c.requires.program says.skeleton says.own_variables says.few in
    let weight = c.weight-weight.ensures ∙ ap (λ (p : NamedProgram). clause_weight (clause_at p.program c.args.clause.0))
    (sym c.requires.program) in
    let room = subst (λ (w : ℕ). c.args.self.now.used + w ≤ c.args.self.now.limit) weight
    (c.has_room.ensures.room c.if-not-has_room.false) in
    failed_in_hand P loaded c.args.self.now c.args.goal c.args.called.0 c.requires.call c.args.clause.0 c.requires.last room
    c.enter_goal.new.self c.enter_goal.ensures.same (c.enter_goal.ensures.fails (c.in_ok-enter_goal.was ∙ ap Ok c.in-NoSolution.is)).0
    c.in_ok-enter_goal.ensures.back

pub returns-then-not-has_room-clause-other : goal.returns-then-not-has_room-clause-other
returns-then-not-has_room-clause-other g c = λ _.
    no_step_to g.N.Naming.program (with_next c.args.goal c.args.self.now) c.put_goal.new.self c.in_ok-put_goal.ensures.put

pub returns-then-not-has_room-clause-used : goal.returns-then-not-has_room-clause-used
returns-then-not-has_room-clause-used g c = let same = ap (λ (b : Held). b.used) c.in_ok-put_goal.ensures.put in omega arith

pub returns-then-not-has_room-clause-grows : goal.returns-then-not-has_room-clause-grows
returns-then-not-has_room-clause-grows g c = λ room.
    let same = ap (λ (p : NamedProgram). clause_weight (clause_at p.program c.args.clause.0)) (sym c.requires.program) in
    absurd (c.has_room.ensures.no_room c.if-not-has_room.true
    (subst (λ (n : ℕ). c.args.self.now.used + n ≤ c.args.self.now.limit) (sym (c.weight-weight.ensures ∙ same)) room))
