use Rattle.std.proofs.Common.{◌∙◌, ap, sym, subst, arith, ◌≡◌, ◌<◌, ◌+◌, ◌-◌, ◌++◌, [], ◌∷◌, suc}
use Rattle.and_store.specs.Passes.{fresh, fresh_from}
use Rattle.and_store.specs.Sight.{one_more}
use Rattle.and_store.proofs.Dealing.{deals, dealt_one, fresh_push}
use Rattle.and_store.proofs.Sizes.{table_some}
use Rattle.and_store.proofs.store.Store.deal.Goals as goal

pub split_seat-next-requires : goal.split_seat-next-requires
split_seat-next-requires g c =
    let i = c.loop-made.invariant in
    let about = ap (λ z. z.about) c.self.view_is in
    let few : c.loop-made.made < c.self.inside.table.shared.key.seats = let a = c.loop-made-test.true in
    let b = c.self.invariant.seats_are in omega (arith, a, b) in (
      i.0 ∙ sym (ap (λ z. z.table) c.self.view_is),
      table_some _ _ _ _ _ _ c.self.invariant,
      rw (i.2, ← about) (deals g.N.Naming.program c.self.inside.table.shared.key _ c.loop-made.made i.3 few),
    )

pub loop-made-preserved : goal.loop-made-preserved
loop-made-preserved g c =
    let i = c.loop-made.invariant in
    let some_made : 0 < c.loop-made.made = i.3 in
    let about = ap (λ z. z.about) c.self.view_is in
    let seats : c.self.inside.seats ≡ c.args.self.now.about.seats = sym c.self.invariant.seats_are ∙ ap (λ z. z.about.seats) c.self.view_is in
    let few : c.loop-made.made < c.args.self.now.about.seats = let a = c.loop-made-test.true in omega (arith, a, seats) in
    let e = c.split_seat-next.ensures in
    let now = ap (λ (m : _). m.0) e.2 in
    let last : 1 + (c.loop-made.made - 1) ≡ c.loop-made.made = omega (arith, some_made) in
    let next : suc (c.loop-made.made - 1) ≡ c.loop-made.made + 1 - 1 = omega (arith, some_made) in (
      e.0 ∙ i.0,
      ap (λ (m : _). m.1) e.2 ∙ i.1,
      now ∙ ap one_more i.2 ∙ dealt_one c.args.self.now.about c.loop-made.made some_made few,
      omega arith,
      c.in_ok-push.ensures.items ∙ ap (λ p. c.loop-made.passes.items ++ p ∷ []) c.in_ok-new_pass.ensures
          ∙ ap (λ l. l ++ fresh c.args.self.now c.loop-made.made ∷ []) i.4
          ∙ ap (λ n. fresh_from c.args.self.now 1 (c.loop-made.made - 1) ++ fresh c.args.self.now n ∷ []) (sym last)
          ∙ fresh_push c.args.self.now 1 (c.loop-made.made - 1) ∙ ap (fresh_from c.args.self.now 1) next,
    )

pub returns : goal.returns
returns g c =
    let i = c.loop-made.invariant in
    let some_made : 0 < c.loop-made.made = i.3 in
    let seats : c.self.inside.seats ≡ c.args.self.now.about.seats = sym c.self.invariant.seats_are ∙ ap (λ z. z.about.seats) c.self.view_is in
    let some_seat : 0 < c.self.inside.seats = subst (λ n. 0 < n) c.self.invariant.seats_are c.self.invariant.modest.some_seat in
    let all : suc (c.loop-made.made - 1) ≡ c.args.self.now.about.seats =
    let a = c.loop-made-test.false in let x = c.loop-made.auto.made in
    let y = c.loop-made.auto.made-end in omega (arith, a, seats, some_made, some_seat, x, y) in
    c.in_ok-insert.ensures.items ∙ ap (λ p. p ∷ c.loop-made.passes.items) c.in_ok-new_pass-2.ensures ∙ ap (λ l. fresh c.args.self.now 0 ∷ l) i.4
    ∙ ap (fresh_from c.args.self.now 0) all
