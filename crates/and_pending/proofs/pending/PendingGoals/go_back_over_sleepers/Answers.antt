use Rattle.std.proofs.Common.{◌≡◌, ◌∷◌, sym, ap, subst, ◌∙◌, rules}
use Rattle.and_pending.specs.Pending.{Pending, Sleeps}
use Rattle.and_pending.proofs.Passing.{gone_over}
use Rattle.and_pending.proofs.pending.PendingGoals.go_back_over_sleepers.Goals as goal

pub loop-self-preserved : goal.loop-self-preserved
loop-self-preserved g c =
    let (front, w, last, back) = c.go_back.ensures.back (search rules) in
    let (v, rest, next, sleeps) = c.next_sleeps.ensures (search rules) in
    let both : v ∷ rest ≡ w ∷ c.loop-self.self.right = sym next ∙ ap (λ (p : Pending). p.right) back in
    let same : v ≡ w = cc in
    gone_over c.args.row.now c.args.self.now c.loop-self.self c.loop-self.invariant c.go_back.new.self front w last back
    (subst (Sleeps c.args.row.now) same sleeps)
