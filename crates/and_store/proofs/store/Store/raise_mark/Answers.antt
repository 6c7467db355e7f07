use Rattle.std.proofs.Common.{◌∙◌, ap, sym, arith, subst, ◌≡◌, [], ℕ, ◌*◌}
use Rattle.and_store_laws.specs.AtWork.{over}
use Rattle.and_store.specs.Told.{mine_of}
use Rattle.and_store.proofs.Raised.{raises_mark, mark_index}
use Rattle.and_store.proofs.Sizes.{mark_in}
use Rattle.and_store.proofs.store.Store.raise_mark.Goals as goal

pub fetch_add-requires : goal.fetch_add-requires
fetch_add-requires g c =
    let none = subst (λ n. over n (mine_of c.args.seat.now.me.0).pass.asked ≡ []) (sym (ap (λ z. z.about.words) c.self.view_is)) c.requires.none_over in
    let here : mark_index c.self.inside.table.shared.key ≡ c.mark_place-mark.result =
    ap mark_index (ap (λ z. z.about) c.self.view_is) ∙ (let n : ℕ = c.args.self.now.about.seats * c.args.self.now.about.waiters in
    let e = c.mark_place-mark.ensures.value in omega (arith, e)) in (
      c.requires.same ∙ sym (ap (λ z. z.table) c.self.view_is),
      (mark_in _ _ _ _ _ _ c.self.invariant c.mark_place-mark.result (ap (λ z. z.table.words) c.self.view_is ∙ c.mark_place-mark.ensures.size)).0,
      rw (← here) (raises_mark g.N.Naming.program c.self.inside.table.shared.key _ _ c.args.weight c.args.seat.now.me.0 c.args.seat.now.me.1 c.requires.alone.0
          c.requires.alone.1 c.requires.weight none),
    )
