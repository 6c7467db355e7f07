use Rattle.std.proofs.Common.{List, ◌≡◌, ◌+◌, ◌-◌, ◌∙◌, ◌++◌, ◌∷◌, [], length, sym, ap, arith}
use Rattle.and_pending.specs.declared.pending.PendingGoal.{PendingGoal}
use Rattle.and_pending.proofs.Stacks.{last_read}
use Rattle.and_pending.proofs.WatchedGoals.{one_back}
use Rattle.and_pending.proofs.pending.PendingGoals.go_back.Goals as goal

pub invariant_of-self-2 : goal.invariant_of-self-2
invariant_of-self-2 c =
    let left = c.self.inside.left.items in
    let last = c.len-count.result - 1 in
    let long : last + 1 ≡ length left = let some = c.if-count-eq0.false in let many = c.len-count.ensures in omega arith in
    one_back c.self.inside.cells.items left c.self.inside.right.items c.self.invariant c.truncate.new.self.items c.index.result.now
    (last_read left last c.index.result.now long c.index.ensures
    ∙ ap (λ (ps : List PendingGoal). ps ++ c.index.result.now ∷ []) (sym c.truncate.ensures.items))
    c.push.new.self.items c.in_ok-push.ensures.items
