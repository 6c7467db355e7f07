use Rattle.std.proofs.Common.{◌∙◌, ap, sym, subst, ◌<◌}
use Rattle.and_store.specs.Passes.{CanSet}
use Rattle.and_store.specs.Told.{mine_of}
use Rattle.and_store.proofs.Allowed.{sets_word}
use Rattle.and_store.proofs.Sizes.{cell_in}
use Rattle.and_store.proofs.store.Store.set_cell.Goals as goal

pub compare_exchange-requires : goal.compare_exchange-requires
compare_exchange-requires g c =
    let words = sym (ap (λ z. z.about.words) c.self.view_is) in
    let within = subst (λ n. c.args.cell < n) words c.requires.cell in
    let can = subst (λ n. CanSet g.N.Naming.program n c.args.cell c.args.to (mine_of c.args.seat.now.me.0).pass.known) words c.requires.can in (
      c.requires.same ∙ sym (ap (λ z. z.table) c.self.view_is),
      cell_in _ _ _ _ _ _ c.self.invariant c.args.cell within,
      rw (c.to_word.ensures, c.to_word-2.ensures)
          (sets_word g.N.Naming.program c.self.inside.table.shared.key _ _ c.args.cell c.args.seat.now.me.0 c.args.seat.now.me.1 c.args.to c.requires.alone.0
          c.requires.alone.1 within can c.requires.at_rest),
    )

pub returns-clause-told : goal.returns-clause-told
returns-clause-told g c = (c.compare_exchange.ensures.2.0 c.args.to c.requires.can.named (sym c.to_word-2.ensures), c.compare_exchange.ensures.2.1)
