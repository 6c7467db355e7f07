use Rattle.std.proofs.Common.{List, sym, subst}
use Rattle.std.proofs.lemmas.Result.{on_ok_weaker}
use Rattle.and_model.specs.declared.reference.Ref.{Ref}
use Rattle.and_branch_laws.specs.Goals.{IsNodeOf}
use Rattle.and_branch.specs.Bodies.{with_body}
use Rattle.and_branch.proofs.BodiesRun.{entered_at}
use Rattle.and_branch.proofs.CallsInHand.{next_in_hand, same_row, same_used, reduced_in_hand, back_in_hand}
use Rattle.and_branch.proofs.branch.Branch.enter_next.Goals as goal

pub take_next-goal-requires : goal.take_next-goal-requires
take_next-goal-requires g c = let x = c.requires.next in record { next = (x.goal, x.rest, x.next) }

pub enter_goal-requires-clause-next : goal.enter_goal-requires-clause-next
enter_goal-requires-clause-next g c =
    next_in_hand g.N.Naming.program c.args.self.now c.take_next-goal.new.self c.take_next-goal.result c.take_next-goal.new.self.right
    c.take_next-goal.ensures.next c.take_next-goal.ensures.dropped c.args.clause.0 c.requires.next

pub enter_goal-requires-clause-call : goal.enter_goal-requires-clause-call
enter_goal-requires-clause-call g c =
    let P = g.N.Naming.program in
    let mid = c.take_next-goal.new.self in
    let row = same_row P c.args.self.now mid c.take_next-goal.result c.take_next-goal.new.self.right c.take_next-goal.ensures.next
    c.take_next-goal.ensures.dropped in
    subst (λ (r : List Ref). IsNodeOf P r c.take_next-goal.result c.args.call.0) (sym row)
    (c.requires.call c.take_next-goal.result mid.right c.take_next-goal.ensures.next)

pub returns-clause-entered : goal.returns-clause-entered
returns-clause-entered g c = λ is.
    let P = g.N.Naming.program in
    let mid = c.take_next-goal.new.self in
    let new = c.enter_goal.new.self in
    let used = same_used P c.args.self.now mid c.take_next-goal.result c.take_next-goal.new.self.right c.take_next-goal.ensures.next
    c.take_next-goal.ensures.dropped in
    entered_at P c.args.clause.0 mid.used c.args.self.now.used c.args.self.now new used
    (reduced_in_hand P c.args.self.now mid c.take_next-goal.result c.take_next-goal.new.self.right c.take_next-goal.ensures.next
    c.take_next-goal.ensures.dropped
    (with_body P c.args.clause.0 mid.used 0 new) c.args.clause.0 (c.enter_goal.ensures.entered is))

pub returns-clause-fails : goal.returns-clause-fails
returns-clause-fails g c = λ is.
    let P = g.N.Naming.program in
    let fails = c.enter_goal.ensures.fails is in (
      reduced_in_hand P c.args.self.now c.take_next-goal.new.self c.take_next-goal.result c.take_next-goal.new.self.right c.take_next-goal.ensures.next
          c.take_next-goal.ensures.dropped c.enter_goal.new.self c.args.clause.0 fails.0,
      fails.1,
    )

pub returns-clause-back : goal.returns-clause-back
returns-clause-back g c =
    let P = g.N.Naming.program in
    on_ok_weaker c.enter_goal.result
    (λ back. back_in_hand P c.args.self.now c.take_next-goal.new.self c.take_next-goal.result c.take_next-goal.new.self.right
    c.take_next-goal.ensures.next c.take_next-goal.ensures.dropped c.enter_goal.new.self back) c.enter_goal.ensures.back
