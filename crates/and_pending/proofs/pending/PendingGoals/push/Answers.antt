use Rattle.and_pending.proofs.WatchedGoals.{not_watched, one_more}
use Rattle.and_pending.proofs.pending.PendingGoals.push.Goals as goal

pub invariant_of-self-2 : goal.invariant_of-self-2
invariant_of-self-2 c =
    one_more c.self.inside.cells.items c.self.inside.left.items c.self.inside.right.items c.self.invariant c.push.new.self.items
    (not_watched c.args.goal) c.in_ok-push.ensures.items tt
