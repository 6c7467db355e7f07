use Rattle.and_pending.proofs.WatchedGoals.{all_put, all_put_within}
use Rattle.and_pending.proofs.pending.PendingGoals.of.Goals as goal

pub invariant_of-result : goal.invariant_of-result
invariant_of-result c =
    all_put_within c.new-2.result.items c.put_goals.new.list.items c.new.result.items c.new-left.result.items c.args.goals.now c.new-left.ensures.items
    c.in_ok-put_goals.ensures c.new.ensures.items

pub returns : goal.returns
returns c =
    all_put c.new-2.result.items c.put_goals.new.list.items c.new.result.items c.new-left.result.items c.args.goals.now c.new-left.ensures.items
    c.in_ok-put_goals.ensures c.new.ensures.items
