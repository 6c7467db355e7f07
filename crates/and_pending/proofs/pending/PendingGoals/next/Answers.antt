use Rattle.std.proofs.Common.{◌-◌, ◌+◌, ◌≡◌, List, length, take, reverse, refl, sym, ap, ◌∙◌, arith}
use Rattle.and_pending.specs.Pending.{Pending, watched_in, all_watched_in}
use Rattle.and_pending.specs.declared.pending.PendingGoal.{PendingGoal}
use Rattle.and_pending.proofs.Stacks.{top_read}
use Rattle.and_pending.proofs.pending.PendingGoals.next.Goals as goal

pub returns-else-count-eq0-clause-some : goal.returns-else-count-eq0-clause-some
returns-else-count-eq0-clause-some c =
    let cells = c.self.inside.cells.items in
    let right = c.self.inside.right.items in
    let last = c.len-count.result - 1 in
    let p = c.index.result.now in
    let long : last + 1 ≡ length right = let some = c.if-count-eq0.false in let many = c.len-count.ensures in omega arith in (
      watched_in cells p,
      all_watched_in cells (reverse (take last right)),
      sym (ap (λ (v : Pending). v.right) c.self.view_is)
          ∙ ap (λ (ps : List PendingGoal). all_watched_in cells ps) (top_read right last p long c.index.ensures),
      refl,
    )
