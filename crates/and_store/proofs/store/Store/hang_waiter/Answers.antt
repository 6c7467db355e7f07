use Rattle.std.proofs.Common.{◌∙◌, ap, sym, subst, ◌<◌, ◌+◌, ◌≡◌, length}
use Rattle.and_cells.specs.Ranges.{IsGoalInRange}
use Rattle.and_store_laws.specs.Steps.{next_waiter}
use Rattle.and_store.specs.Sight.{About, opening_of}
use Rattle.and_store.specs.Told.{mine_of}
use Rattle.and_store.proofs.Goals_hung.{hangs_waiter}
use Rattle.and_store.proofs.Sizes.{place_in}
use Rattle.and_store.proofs.store.Store.hang_waiter.Goals as goal

pub compare_exchange-requires : goal.compare_exchange-requires
compare_exchange-requires g c =
    let about = sym (ap (λ z. z.about) c.self.view_is) in
    let within = subst (λ (b : About). c.args.cell < b.words) about c.requires.cell in
    let in_range = subst (λ (b : About). IsGoalInRange g.N.Naming.program b.words c.args.goal.now) about c.requires.in_range in
    let left = subst (λ (b : About). length (mine_of c.args.seat.now.me.0).pass.hung < b.waiters) about c.requires.left in
    let waiter = subst (λ (b : About). c.args.waiter ≡ next_waiter (opening_of g.N.Naming.program b) (mine_of c.args.seat.now.me.0)) about c.requires.waiter in
    let noted = c.requires.noted in (
      c.requires.same ∙ sym (ap (λ z. z.table) c.self.view_is),
      place_in _ _ _ _ _ _ c.self.invariant c.args.cell within,
      rw (← c.self.invariant.words_are)
          (hangs_waiter g.N.Naming.program c.self.inside.table.shared.key _ _ c.args.cell c.args.waiter noted.0 noted.1 c.args.goal.now
          c.args.seat.now.me.0 c.args.seat.now.me.1 c.requires.alone.0 c.requires.alone.1 within noted.2 noted.3 noted.4 in_range left waiter),
    )

pub returns-clause-told : goal.returns-clause-told
returns-clause-told g c =
    let noted = c.requires.noted in
    let here = sym c.self.invariant.words_are ∙ ap (λ z. z.about.words) c.self.view_is ∙ sym (ap (λ z. z.words) c.requires.about) in (
      c.compare_exchange.ensures.2.0 c.args.cell noted.0 noted.1 c.args.goal.now (ap (λ n. n + c.args.cell) here) noted.2 noted.3 noted.4,
      c.compare_exchange.ensures.2.1,
    )
