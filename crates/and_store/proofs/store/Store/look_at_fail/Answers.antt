use Rattle.std.proofs.Common.{◌∙◌, ap, sym, arith, ◌≡◌, ℕ, ◌+◌, ◌*◌}
use Rattle.and_store.proofs.Raised.{looks_at_fail, fail_index}
use Rattle.and_store.proofs.Sizes.{mark_in}
use Rattle.and_store.proofs.store.Store.look_at_fail.Goals as goal

pub load-requires : goal.load-requires
load-requires g c =
    let here : fail_index c.self.inside.table.shared.key ≡ c.mark_place-fail.result + 1 =
    ap fail_index (ap (λ z. z.about) c.self.view_is) ∙ (let n : ℕ = c.args.self.now.about.seats * c.args.self.now.about.waiters in
    let e = c.mark_place-fail.ensures.value in omega (arith, e)) in (
      c.requires.same ∙ sym (ap (λ z. z.table) c.self.view_is),
      (mark_in _ _ _ _ _ _ c.self.invariant c.mark_place-fail.result (ap (λ z. z.table.words) c.self.view_is ∙ c.mark_place-fail.ensures.size)).1,
      rw (← here) (looks_at_fail g.N.Naming.program c.self.inside.table.shared.key _ _ c.args.seat.now.me.0 c.args.seat.now.me.1 c.requires.alone.0
          c.requires.alone.1),
    )
