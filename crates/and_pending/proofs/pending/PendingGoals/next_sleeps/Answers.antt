use Rattle.std.proofs.Common.{ℕ, ◌-◌, ◌+◌, ◌≡◌, List, length, take, reverse, sym, ap, ◌∙◌, subst, arith}
use Rattle.and_pending.specs.Pending.{Pending, IsWithin, Sleeps, watched_in, all_watched_in}
use Rattle.and_pending.specs.declared.pending.PendingGoal.{PendingGoal}
use Rattle.and_pending.proofs.Stacks.{top_read}
use Rattle.and_pending.proofs.WatchedGoals.{top_within}
use Rattle.and_pending.proofs.pending.PendingGoals.next_sleeps.Goals as goal

pub sleeps-requires : goal.sleeps-requires
sleeps-requires g c =
    let right = c.self.inside.right.items in
    let last = c.len-count.result - 1 in
    let p = c.index.result.now in
    let long : last + 1 ≡ length right = let some = c.if-count-gt0.true in let many = c.len-count.ensures in omega arith in
    subst (λ (l : List ℕ). IsWithin l p) (sym c.deref.ensures.value)
    (top_within c.self.inside.cells.items c.self.inside.left.items right c.self.invariant last p long c.index.ensures)

pub returns-then-count-gt0 : goal.returns-then-count-gt0
returns-then-count-gt0 g c = λ yes.
    let cells = c.self.inside.cells.items in
    let right = c.self.inside.right.items in
    let last = c.len-count.result - 1 in
    let p = c.index.result.now in
    let long : last + 1 ≡ length right = let some = c.if-count-gt0.true in let many = c.len-count.ensures in omega arith in (
      watched_in cells p,
      all_watched_in cells (reverse (take last right)),
      sym (ap (λ (v : Pending). v.right) c.self.view_is)
          ∙ ap (λ (ps : List PendingGoal). all_watched_in cells ps) (top_read right last p long c.index.ensures),
      subst (λ (l : List ℕ). Sleeps c.args.row.now (watched_in l p)) c.deref.ensures.value (c.sleeps.ensures yes),
    )
