use Rattle.std.proofs.Common.{◌∙◌, ap, sym, subst, ◌<◌, ◌+◌, ◌*◌, cond}
use Rattle.and_store.specs.Sight.{About}
use Rattle.and_store.proofs.Goals_hung.{looks_at_goal}
use Rattle.and_store.proofs.store.Store.look_at_goal.Goals as goal

pub load-requires : goal.load-requires
load-requires g c =
    let about = sym (ap (λ z. z.about) c.self.view_is) in
    let within = subst (λ (b : About). 2 * c.args.waiter + cond c.args.is_lower 1 0 < 2 * (b.seats * b.waiters)) about c.goal_place-place.ensures.index in
    let place = c.goal_place-place.ensures.value ∙ ap (λ (b : About). b.words + (b.words + (2 * c.args.waiter + cond c.args.is_lower 1 0))) about in (
      c.requires.same ∙ sym (ap (λ z. z.table) c.self.view_is),
      rw (ap (λ z. z.table.words) c.self.view_is) c.goal_place-place.ensures.within,
      rw place (looks_at_goal g.N.Naming.program c.self.inside.table.shared.key _ _ (2 * c.args.waiter + cond c.args.is_lower 1 0) c.args.seat.now.me.0
          c.args.seat.now.me.1 c.requires.alone.0 c.requires.alone.1 within),
    )

pub returns-clause-told : goal.returns-clause-told
returns-clause-told g c = (
  c.load.ensures.2.0 (2 * c.args.waiter + cond c.args.is_lower 1 0)
      (c.goal_place-place.ensures.value ∙ ap (λ (b : About). b.words + (b.words + (2 * c.args.waiter + cond c.args.is_lower 1 0))) (sym c.requires.about)),
  c.load.ensures.2.1,
)
