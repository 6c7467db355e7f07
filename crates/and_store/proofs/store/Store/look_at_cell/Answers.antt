use Rattle.std.proofs.Common.{◌∙◌, ap, sym, subst, ◌<◌}
use Rattle.and_store.proofs.Allowed.{looks}
use Rattle.and_store.proofs.Sizes.{cell_in}
use Rattle.and_store.proofs.store.Store.look_at_cell.Goals as goal

pub load-requires : goal.load-requires
load-requires g c =
    let within = subst (λ n. c.args.cell < n) (sym (ap (λ z. z.about.words) c.self.view_is)) c.requires.cell in (
      c.requires.same ∙ sym (ap (λ z. z.table) c.self.view_is),
      cell_in _ _ _ _ _ _ c.self.invariant c.args.cell within,
      looks g.N.Naming.program c.self.inside.table.shared.key _ _ c.args.cell c.args.seat.now.me.0 c.args.seat.now.me.1 c.requires.alone.0
          c.requires.alone.1 within,
    )
