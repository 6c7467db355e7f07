use Rattle.std.proofs.Common.{◌∙◌, ap, sym, arith, subst, ◌<◌, ◌+◌, ◌*◌, ◌≡◌, ◌≤◌, cond, length, true, false, Bool}
use Rattle.and_store_laws.specs.Steps.{next_waiter}
use Rattle.and_store.specs.Sight.{About, opening_of}
use Rattle.and_store.specs.Told.{mine_of}
use Rattle.and_store.proofs.Goals_hung.{notes}
use Rattle.and_store.proofs.store.Store.note_word.Goals as goal

at_most_one : (b : Bool) → cond b 1 0 ≤ 1
at_most_one true = omega arith
at_most_one false = omega arith

pub store-requires : goal.store-requires
store-requires g c =
    let about = sym (ap (λ z. z.about) c.self.view_is) in
    let left = subst (λ (b : About). length (mine_of c.args.seat.now.me.0).pass.hung < b.waiters) about c.requires.left in
    let waiter = subst (λ (b : About). c.args.waiter ≡ next_waiter (opening_of g.N.Naming.program b) (mine_of c.args.seat.now.me.0)) about
    c.requires.waiter.0 in
    let few = subst (λ n. n ≤ 1) (sym c.requires.noted) (at_most_one c.args.is_lower) in
    let place = c.goal_place-place.ensures.value ∙ ap (λ (b : About). b.words + (b.words + (2 * c.args.waiter + cond c.args.is_lower 1 0))) about
    ∙ ap (λ n. c.self.inside.table.shared.key.words + (c.self.inside.table.shared.key.words + (2 * c.args.waiter + n))) (sym c.requires.noted) in (
      c.requires.same ∙ sym (ap (λ z. z.table) c.self.view_is),
      rw (ap (λ z. z.table.words) c.self.view_is) c.goal_place-place.ensures.within,
      rw place (notes g.N.Naming.program c.self.inside.table.shared.key _ _ c.args.waiter c.args.word c.args.seat.now.me.0 c.args.seat.now.me.1
          c.requires.alone.0 c.requires.alone.1 left few waiter),
    )
