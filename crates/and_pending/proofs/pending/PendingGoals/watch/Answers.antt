use Rattle.std.proofs.Common.{◌≡◌, ◌-◌, ◌∷◌, reverse, Some, ap, ◌∙◌}
use Rattle.and_pending.specs.Pending.{Pending, all_watched_in}
use Rattle.and_pending.proofs.WatchedGoals.{last_of, within_grown, within_watched, view_watched, parted}
use Rattle.and_pending.proofs.pending.PendingGoals.watch.Goals as goal

pub invariant_of-self : goal.invariant_of-self
invariant_of-self c =
    let (gained, grown) = c.watch_by.ensures.grown in
    within_grown c.self.inside.cells.items gained c.watch_by.new.list.items c.self.inside.left.items c.self.inside.right.items c.self.invariant grown

pub invariant_of-self-2 : goal.invariant_of-self-2
invariant_of-self-2 c =
    let cells = c.self.inside.cells.items in
    let right = c.self.inside.right.items in
    let (gained, grown) = c.watch_by.ensures.grown in
    within_watched cells gained c.watch_by.new.list.items c.self.inside.left.items right c.self.invariant grown
    (c.len-last.result - 1) c.index_mut.result.now
    (last_of cells right c.requires.0 c.requires.1 c.len-last.result (c.len-last.ensures ∙ c.self.inside.right.ok.0)
    (ap (λ (v : Pending). v.right) c.self.view_is ∙ c.requires.2))
    c.index_mut.ensures.value c.in_ok-watch.watch c.args.cells.now c.in_ok-watch.ensures.watched

pub returns : goal.returns
returns c = λ w rest e.
    let cells = c.self.inside.cells.items in
    let right = c.self.inside.right.items in
    let (gained, grown) = c.watch_by.ensures.grown in
    let is : all_watched_in cells (reverse right) ≡ w ∷ rest = ap (λ (v : Pending). v.right) c.self.view_is ∙ e in
    view_watched cells gained c.watch_by.new.list.items c.self.inside.left.items right c.self.invariant grown
    (c.len-last.result - 1) c.index_mut.result.now
    (last_of cells right w rest c.len-last.result (c.len-last.ensures ∙ c.self.inside.right.ok.0) is)
    c.index_mut.ensures.value c.in_ok-watch.watch c.args.cells.now c.in_ok-watch.ensures.watched w rest is
    ∙ ap (λ (v : Pending). parted v.left (record { goal = w.goal; cells = Some c.args.cells.now } ∷ rest)) c.self.view_is
