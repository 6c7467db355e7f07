use Rattle.std.proofs.Common.{◌∙◌, ap, sym, subst, ◌≡◌, ◌<◌, ◌≤◌, ◌*◌, ℕ, map}
use Rattle.and_model.specs.Store.{HungGoal}
use Rattle.and_store.specs.Passes.{PassSeen, numbers_from}
use Rattle.and_store.proofs.Over.{own_below}
use Rattle.and_store.proofs.store.Store.push_left_of.Goals as goal

pub returns-clause-below : goal.returns-clause-below
returns-clause-below g c =
    let p = c.args.pass.now in
    let own = c.pass.invariant.1 in
    let about = ap (λ (q : PassSeen). q.store.about) c.pass.view_is ∙ ap (λ z. z.about) c.requires.store in
    let seats : ℕ = c.args.self.now.about.seats in
    let each : ℕ = c.args.self.now.about.waiters in
    let number : ℕ = c.pass.inside.number in
    let hung : ℕ = c.pass.inside.hung in
    let below : number < seats = subst (λ (n : ℕ). number < n) (ap (λ z. z.seats) about) own.number_below in
    let few : hung ≤ each = subst (λ (n : ℕ). hung ≤ n) (ap (λ z. z.waiters) about) own.hung_fit in
    let are : map (λ (g : HungGoal). g.waiter) p.pass.hung ≡ numbers_from (number * each) hung =
    sym (ap (λ (q : PassSeen). map (λ (g : HungGoal). g.waiter) q.pass.hung) c.pass.view_is) ∙ own.in_turn
    ∙ ap (λ (n : ℕ). numbers_from (number * n) hung) (ap (λ z. z.waiters) about) in
    own_below p c.args.number number hung each seats below few are
