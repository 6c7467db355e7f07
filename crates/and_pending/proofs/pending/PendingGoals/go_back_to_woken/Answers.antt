use Rattle.std.proofs.Common.{Ok, ap, ◌∙◌}
use Rattle.and_pending.proofs.Passing.{one_back_at_most}
use Rattle.and_pending.proofs.pending.PendingGoals.go_back_to_woken.Goals as goal

pub returns-in_ok-_is_there-clause-moved : goal.returns-in_ok-_is_there-clause-moved
returns-in_ok-_is_there-clause-moved g c =
    let both = one_back_at_most c.args.self.now c.go_back.new.self c.in_ok-_is_there._is_there
    (λ e. c.go_back.ensures.none (c.in_ok-_is_there.was ∙ ap Ok e)) (λ e. c.go_back.ensures.back (c.in_ok-_is_there.was ∙ ap Ok e)) in
    both.0

pub returns-in_ok-_is_there-clause-near : goal.returns-in_ok-_is_there-clause-near
returns-in_ok-_is_there-clause-near g c =
    let both = one_back_at_most c.args.self.now c.go_back.new.self c.in_ok-_is_there._is_there
    (λ e. c.go_back.ensures.none (c.in_ok-_is_there.was ∙ ap Ok e)) (λ e. c.go_back.ensures.back (c.in_ok-_is_there.was ∙ ap Ok e)) in
    both.1
