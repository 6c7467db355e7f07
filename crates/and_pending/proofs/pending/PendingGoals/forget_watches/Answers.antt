use Rattle.std.proofs.Common.{List, ◌++◌, map, reverse, sym, ap, ◌∙◌, subst}
use Rattle.std.specs.Prelude.{All}
use Rattle.and_pending.specs.Pending.{Pending, IsWithin, goals_of, unwatched}
use Rattle.and_pending.specs.declared.pending.PendingGoal.{PendingGoal}
use Rattle.and_pending.proofs.WatchedGoals.{cleared, all_cleared, forgotten, parted}
use Rattle.and_pending.proofs.pending.PendingGoals.forget_watches.Goals as goal

pub invariant_of-self : goal.invariant_of-self
invariant_of-self c =
    let cells = c.clear.new.self.items in
    subst (λ (ps : List PendingGoal). All (IsWithin cells) (ps ++ reverse c.stop_watching-2.new.list.items)) (sym c.stop_watching.ensures)
    (subst (λ (ps : List PendingGoal). All (IsWithin cells) (map cleared c.self.inside.left.items ++ reverse ps)) (sym c.stop_watching-2.ensures)
    (all_cleared cells c.self.inside.left.items c.self.inside.right.items))

pub returns : goal.returns
returns c =
    forgotten c.self.inside.cells.items c.clear.new.self.items c.self.inside.left.items c.self.inside.right.items c.stop_watching.new.list.items
    c.stop_watching-2.new.list.items c.stop_watching.ensures c.stop_watching-2.ensures
    ∙ ap (λ (v : Pending). parted (map unwatched (goals_of v.left)) (map unwatched (goals_of v.right))) c.self.view_is
