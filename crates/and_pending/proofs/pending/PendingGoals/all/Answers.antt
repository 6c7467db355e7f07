use Rattle.std.proofs.Common.{◌≡◌, List, ◌++◌, map, reverse, ap, ◌∙◌, subst}
use Rattle.and_pending.specs.Pending.{Pending, goals_of}
use Rattle.and_pending.specs.declared.pending.PendingGoal.{PendingGoal}
use Rattle.and_pending.proofs.WatchedGoals.{goal_of, all_goals}
use Rattle.and_pending.proofs.pending.PendingGoals.all.Goals as goal

pub returns : goal.returns
returns c =
    let first = c.new-goals.result.items in
    let second = c.list_goals.new.list.items in
    let third = c.list_reversed.new.list.items in
    subst (λ (v : Pending). third ≡ goals_of (v.left ++ v.right)) c.self.view_is
    (all_goals c.self.inside.cells.items c.self.inside.left.items c.self.inside.right.items first second third c.new-goals.ensures.items
    (c.in_ok-list_goals.ensures ∙ ap (λ (ps : List PendingGoal). first ++ map goal_of ps) c.deref.ensures.value)
    (c.in_ok-list_reversed.ensures ∙ ap (λ (ps : List PendingGoal). second ++ map goal_of (reverse ps)) c.deref-2.ensures.value))
