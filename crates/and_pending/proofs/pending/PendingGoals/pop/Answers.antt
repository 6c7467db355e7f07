use Rattle.std.proofs.Common.{List, reverse, refl, sym, ap, ◌∙◌}
use Rattle.and_pending.specs.Pending.{Pending, watched_in, all_watched_in}
use Rattle.and_pending.specs.declared.pending.PendingGoal.{PendingGoal}
use Rattle.and_pending.proofs.Stacks.{top_popped}
use Rattle.and_pending.proofs.WatchedGoals.{one_less, parted}
use Rattle.and_pending.proofs.pending.PendingGoals.pop.Goals as goal

pub invariant_of-self-2 : goal.invariant_of-self-2
invariant_of-self-2 c =
    one_less c.self.inside.cells.items c.self.inside.left.items c.self.inside.right.items c.self.invariant c.pop.new.self.items
    c.in_ok-pending.pending c.in_ok-pending.ensures.items

pub returns-clause-some : goal.returns-clause-some
returns-clause-some c =
    let cells = c.self.inside.cells.items in
    let rest = all_watched_in cells (reverse c.pop.new.self.items) in (
      watched_in cells c.in_ok-pending.pending,
      rest,
      sym (ap (λ (v : Pending). v.right) c.self.view_is)
          ∙ ap (λ (ps : List PendingGoal). all_watched_in cells ps)
          (top_popped c.self.inside.right.items c.pop.new.self.items c.in_ok-pending.pending c.in_ok-pending.ensures.items),
      refl,
      ap (λ (v : Pending). parted v.left rest) c.self.view_is,
    )
