use Rattle.std.proofs.Common.{ℕ, List, subst}
use Rattle.std.specs.Prelude.{All}
use Rattle.std.proofs.lemmas.List.Elements.{All-map}
use Rattle.and_pending.specs.Pending.{Pending, Sleeps, watched_in}
use Rattle.and_pending.specs.declared.pending.PendingGoal.{PendingGoal}
use Rattle.and_pending.proofs.WatchedGoals.{SleepsIn}
use Rattle.and_pending.proofs.pending.PendingGoals.are_asleep.Goals as goal

pub returns : goal.returns
returns g c = λ yes.
    let row = c.args.row.now in
    let cells = c.self.inside.cells.items in
    subst (λ (v : Pending). All (Sleeps row) v.left) c.self.view_is
    (All-map (Sleeps row) (watched_in cells) c.self.inside.left.items
    (subst (λ (ps : List PendingGoal). All (SleepsIn cells row) ps) c.deref-2.ensures.value
    (subst (λ (l : List ℕ). All (SleepsIn l row) c.deref-2.result.now) c.deref.ensures.value (c.all_sleep.ensures yes))))
