use Rattle.std.proofs.Common.{ap, refl, sym, subst, ◌∙◌, ◌∷◌, Some}
use Rattle.atomic_table.specs.Table.{rest}
use Rattle.and_histories.specs.PlainTree.{clear}
use Rattle.and_tree.specs.Sight.{mine_of, Sight}
use Rattle.and_tree.specs.Told.{CanCall, CallTold}
use Rattle.and_tree.proofs.tree.Tree.take_out.Goals as goal

pub exchange-taken-requires : goal.exchange-taken-requires
exchange-taken-requires g c = (
  c.requires.same ∙ sym (ap (λ z. z.table) c.self.view_is),
  (Some c.requires.slot.0, c.requires.slot.1 ∙ ap (λ l. (c.args.cell, Some c.requires.slot.0) ∷ l) (sym (ap rest c.requires.slot.1))),
)

pub clear_cell-requires-clause-can : goal.clear_cell-requires-clause-can
clear_cell-requires-clause-can g c =
    subst (λ (v : Sight). CanCall c.args.self.now.about v (clear (mine_of v).team c.args.cell)) (sym (ap (λ m. m.0) c.exchange-taken.ensures.3)) c.requires.can

pub clear_cell-requires-clause-clears : goal.clear_cell-requires-clause-clears
clear_cell-requires-clause-clears g c = refl

pub returns-clause-told : goal.returns-clause-told
returns-clause-told g c =
    let told = c.clear_cell.ensures.told in (
      told.0,
      subst (λ (v : Sight). CallTold (clear (mine_of v).team c.args.cell) v told.0 c.clear_cell.new.seat.me.0)
          (ap (λ m. m.0) c.exchange-taken.ensures.3) told.1,
      told.2,
    )
