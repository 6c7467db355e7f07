use Rattle.std.proofs.Common.{◌≡◌, ◌⊎◌, length, refl, sym, ◌∙◌, subst, inl, inr, append-nil}
use Rattle.and_model.specs.Programs.{call, arithmetic, Arithmetic}
use Rattle.and_model.specs.Terms.{Term}
use Rattle.and_cells.specs.Ranges.{NamedProgram, IsGoalInRange}
use Rattle.and_branch_laws.specs.Kept.{item_at}
use Rattle.and_proof.proofs.Stepped.{next_in_range, next_is_goal, passed_on, same_goals, none_there}
use Rattle.and_proof.proofs.unfolding.pass_arithmetic.Goals as goal

pub goals-init : goal.goals-init
goals-init g c = λ cs x. x

pub is_call-requires-clause-in_range : goal.is_call-requires-clause-in_range
is_call-requires-clause-in_range g c =
    let P = g.N.Naming.program in
    let (cs, x) = c.requires.unfolding in
    let row = c.args.cells.now in (
      length row,
      subst (λ (Q : NamedProgram). IsGoalInRange Q (length row) c.in-Some.next.goal) c.requires.program
          (next_in_range P row c.goals.goals c.goals.goals cs c.pop.new.self.items c.in-Some.next (c.goals.invariant cs x) c.in-Some.ensures.items),
    )

pub is_call-requires-clause-kind : goal.is_call-requires-clause-kind
is_call-requires-clause-kind g c =
    let P = g.N.Naming.program in
    let (cs, x) = c.requires.unfolding in
    let goal = c.in-Some.next.goal in
    subst (λ (Q : NamedProgram). ((t : Term) × (item_at Q.program goal ≡ call t)) ⊎ ((a : Arithmetic) × (item_at Q.program goal ≡ arithmetic a)))
    c.requires.program
    (next_is_goal P c.args.cells.now c.goals.goals c.goals.goals cs c.pop.new.self.items c.in-Some.next (c.goals.invariant cs x) c.in-Some.ensures.items)

pub returns-then-is_call-clause-unfolding : goal.returns-then-is_call-clause-unfolding
returns-then-is_call-clause-unfolding g c = λ cs x.
    same_goals g.N.Naming.program c.args.cells.now c.goals.goals _ cs (c.in_ok-push.ensures.items ∙ sym c.in-Some.ensures.items) refl refl
    (c.goals.invariant cs x)

pub returns-then-is_call-clause-at_call : goal.returns-then-is_call-clause-at_call
returns-then-is_call-clause-at_call g c =
    let P = g.N.Naming.program in
    let goal = c.in-Some.next.goal in
    let (term, item) = subst (λ (Q : NamedProgram). (t : Term) × (item_at Q.program goal ≡ call t)) (sym c.requires.program)
    (c.is_call.ensures.call c.if-is_call.true) in
    inr (c.pop.new.self.items, c.in-Some.next, term, c.in_ok-push.ensures.items, item)

pub goals-preserved : goal.goals-preserved
goals-preserved g c = λ cs x.
    let P = g.N.Naming.program in
    let goal = c.in-Some.next.goal in
    let (a, item) = subst (λ (Q : NamedProgram). (a : Arithmetic) × (item_at Q.program goal ≡ arithmetic a)) (sym c.requires.program)
    (c.is_call.ensures.arithmetic c.if-is_call.false) in
    passed_on P c.args.cells.now c.goals.goals _ cs c.pop.new.self.items c.in-Some.next (c.goals.invariant cs x) c.in-Some.ensures.items
    a item refl c.in_ok-push-2.ensures.items refl

pub returns-clause-unfolding : goal.returns-clause-unfolding
returns-clause-unfolding g c = λ cs x.
    same_goals g.N.Naming.program c.args.cells.now c.goals.goals _ cs (sym (append-nil c.pop.new.self.items) ∙ sym c.in_default.ensures.items) refl refl
    (c.goals.invariant cs x)

pub returns-clause-at_call : goal.returns-clause-at_call
returns-clause-at_call g c = inl (none_there c.pop.new.self.items (sym c.pop.new.self.ok.0 ∙ c.in_default.ensures.cases.1))
