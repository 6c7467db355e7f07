use Rattle.std.proofs.Common.{◌≡◌, ◌+◌, ◌-◌, length, ap, ◌∙◌}
use Rattle.and_pending.specs.Pending.{Pending}
use Rattle.and_pending.proofs.WatchedGoals.{last_of, one_passed_over}
use Rattle.and_pending.proofs.pending.PendingGoals.pass.Goals as goal

pub invariant_of-self-2 : goal.invariant_of-self-2
invariant_of-self-2 c =
    let cells = c.self.inside.cells.items in
    let right = c.self.inside.right.items in
    let last = c.len-last.result - 1 in
    let long : last + 1 ≡ length right =
    last_of cells right c.requires.0 c.requires.1 c.len-last.result (c.len-last.ensures ∙ c.self.inside.right.ok.0)
    (ap (λ (v : Pending). v.right) c.self.view_is ∙ c.requires.2) in
    one_passed_over cells c.self.inside.left.items right c.self.invariant c.push.new.self.items c.truncate.new.self.items last
    c.index.result.now long c.index.ensures c.in_ok-push.ensures.items c.truncate.ensures.items
