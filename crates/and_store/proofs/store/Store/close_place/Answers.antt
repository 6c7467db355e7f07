use Rattle.std.proofs.Common.{◌∙◌, ap, sym, subst, ◌<◌, ◌+◌}
use Rattle.and_store.proofs.Placed.{closes_place}
use Rattle.and_store.proofs.Sizes.{place_in}
use Rattle.and_store.proofs.store.Store.close_place.Goals as goal

pub swap-requires : goal.swap-requires
swap-requires g c =
    let within = subst (λ n. c.args.cell < n) (sym (ap (λ z. z.about.words) c.self.view_is)) c.requires.cell in (
      c.requires.same ∙ sym (ap (λ z. z.table) c.self.view_is),
      place_in _ _ _ _ _ _ c.self.invariant c.args.cell within,
      rw (← c.self.invariant.words_are)
          (closes_place g.N.Naming.program c.self.inside.table.shared.key _ _ c.args.cell c.args.seat.now.me.0 c.args.seat.now.me.1 c.requires.alone.0
          c.requires.alone.1 within c.requires.pends),
    )

pub returns-clause-told : goal.returns-clause-told
returns-clause-told g c = (
  c.swap.ensures.2.0 c.args.cell
      (ap (λ n. n + c.args.cell) (sym c.self.invariant.words_are ∙ ap (λ z. z.about.words) c.self.view_is ∙ sym (ap (λ z. z.words) c.requires.about))),
  c.swap.ensures.2.1,
)
