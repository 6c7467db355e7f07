use Rattle.std.proofs.Common.{◌≡◌, ◌<◌, List, ◌∷◌, ◌++◌, length, ap, subst, arith}
use Rattle.std.proofs.lemmas.List.{length-map}
use Rattle.and_model.specs.declared.goal.Goal.{Goal}
use Rattle.and_pending.specs.Pending.{Pending, goals_of, watched_in}
use Rattle.and_pending.proofs.WatchedGoals.{goals_at}
use Rattle.and_pending.proofs.pending.PendingGoals.at.Goals as goal

pub returns : goal.returns
returns c =
    let left = c.self.inside.left.items in
    let p = c.index.result.now in
    let place = c.args.place in
    let low : place < length left =
    let asked = c.requires in
    let same = ap (λ (v : Pending). length v.left) c.self.view_is in
    let mapped = length-map left (watched_in c.self.inside.cells.items) in
    omega arith in
    subst (λ (v : Pending). (front : List Goal) × (back : List Goal) × (goals_of v.left ≡ front ++ p.goal ∷ back) × (length front ≡ place)) c.self.view_is
    (goals_at c.self.inside.cells.items left place p low c.index.ensures)
