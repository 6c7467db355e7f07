use Rattle.std.proofs.Common.{Ok, inl, inr, refl, ap, sym, ◌∙◌, subst, arith}
use Rattle.and_branch_parts.specs.Branches.{Held}
use Rattle.and_branch_parts.specs.Rounds.{StepsOn, IsAtMost}
use Rattle.and_branch_parts.proofs.LookedGoals.{no_steps, steps_then}
use Rattle.and_branch_parts.proofs.RoundsKept.{same_then}
use Rattle.and_branch.specs.Bodies.{with_next, IsCallInHand}
use Rattle.and_branch.proofs.CallsInHand.{has_grown, no_step_to}
use Rattle.and_branch.proofs.branch.Branch.run_on.Goals as goal

pub calls-init : goal.calls-init
calls-init g c = record {
  few = let some = c.requires.left in omega arith;
  same = record { key = refl; limit = refl };
  call = c.requires.call;
  last = c.requires.last;
  steps = no_steps g.N.Naming.program (with_next c.args.goal c.args.self.now);
  grown = inr (refl, c.requires.room);
}

pub calls-preserved : goal.calls-preserved
calls-preserved g c =
    let P = g.N.Naming.program in
    let start = with_next c.args.goal c.args.self.now in
    let here = with_next c.calls.call c.calls.self in
    let there = with_next c.in-Call.next c.reduce_call.new.self in
    let (hand, others) = c.reduce_call.ensures.call c.in-Call.next c.in-Call.place (c.in_ok-first.was ∙ ap Ok c.in-Call.is) in
    let steps = steps_then P start here there c.calls.invariant.steps others in
    let more = has_grown c.args.self.now.used c.calls.self.used c.reduce_call.new.self.used _ _ c.calls.invariant.grown
    c.in_ok-first.ensures.used c.in_ok-first.ensures.grows in
    let last = c.last_clause.ensures.last c.in-Some.last (c.in_ok-last_clause-in-Call.was ∙ ap Ok c.in-Some.is) in
    let new = c.last_clause.new.self in
    record {
      few = omega arith;
      same = same_then c.args.self.now c.reduce_call.new.self new
          (same_then c.args.self.now c.calls.self c.reduce_call.new.self c.calls.invariant.same c.reduce_call.ensures.same)
          c.last_clause.ensures.same;
      call = subst (λ (b : Held). IsCallInHand P b c.in-Call.next c.in-Call.place.0) (sym last.0) hand;
      last = subst (λ (b : Held). IsAtMost P b.row c.in-Call.next c.in-Some.last.0) (sym last.0) last.1;
      steps = subst (λ (b : Held). StepsOn P start (with_next c.in-Call.next b)) (sym last.0) steps;
      grown = inl (let same = ap (λ (b : Held). b.used) last.0 in omega arith);
    }

pub returns-in-Other-clause-used : goal.returns-in-Other-clause-used
returns-in-Other-clause-used g c =
    let more = has_grown c.args.self.now.used c.calls.self.used c.reduce_call.new.self.used _ _ c.calls.invariant.grown
    c.in_ok-first.ensures.used c.in_ok-first.ensures.grows in
    more

pub returns-in-Other-clause-steps : goal.returns-in-Other-clause-steps
returns-in-Other-clause-steps g c =
    steps_then g.N.Naming.program (with_next c.args.goal c.args.self.now) (with_next c.calls.call c.calls.self)
    c.reduce_call.new.self c.calls.invariant.steps (c.reduce_call.ensures.other (c.in_ok-first.was ∙ ap Ok c.in-Other.is))

pub returns-then-taken-left-clause-used : goal.returns-then-taken-left-clause-used
returns-then-taken-left-clause-used g c =
    let more = has_grown c.args.self.now.used c.calls.self.used c.reduce_call.new.self.used _ _ c.calls.invariant.grown
    c.in_ok-first.ensures.used c.in_ok-first.ensures.grows in
    let same = ap (λ (b : Held). b.used) c.in_ok-put_goal-in-Call.ensures.put in omega arith

pub returns-then-taken-left-clause-steps : goal.returns-then-taken-left-clause-steps
returns-then-taken-left-clause-steps g c =
    let P = g.N.Naming.program in
    let start = with_next c.args.goal c.args.self.now in
    let here = with_next c.calls.call c.calls.self in
    let there = with_next c.in-Call.next c.reduce_call.new.self in
    let (hand, others) = c.reduce_call.ensures.call c.in-Call.next c.in-Call.place (c.in_ok-first.was ∙ ap Ok c.in-Call.is) in
    let steps = steps_then P start here there c.calls.invariant.steps others in
    steps_then P start there c.put_goal.new.self steps (no_step_to P there c.put_goal.new.self c.in_ok-put_goal-in-Call.ensures.put)

pub returns-in-None-clause-used : goal.returns-in-None-clause-used
returns-in-None-clause-used g c =
    let more = has_grown c.args.self.now.used c.calls.self.used c.reduce_call.new.self.used _ _ c.calls.invariant.grown
    c.in_ok-first.ensures.used c.in_ok-first.ensures.grows in
    let same = c.in_ok-last_clause-in-Call.ensures.used in omega arith

pub returns-in-None-clause-steps : goal.returns-in-None-clause-steps
returns-in-None-clause-steps g c =
    let P = g.N.Naming.program in
    let start = with_next c.args.goal c.args.self.now in
    let here = with_next c.calls.call c.calls.self in
    let there = with_next c.in-Call.next c.reduce_call.new.self in
    let (hand, others) = c.reduce_call.ensures.call c.in-Call.next c.in-Call.place (c.in_ok-first.was ∙ ap Ok c.in-Call.is) in
    let steps = steps_then P start here there c.calls.invariant.steps others in
    steps_then P start there c.last_clause.new.self steps (c.last_clause.ensures.put (c.in_ok-last_clause-in-Call.was ∙ ap Ok c.in-None.is))
