use Rattle.std.proofs.Common.{◌<◌, ◌*◌, ap, sym, subst, ◌∙◌}
use Rattle.and_tree.specs.Sight.{mine_of}
use Rattle.and_tree.specs.Told.{MayCall}
use Rattle.and_tree.proofs.Slots.{allows_clear}
use Rattle.and_tree.proofs.Sizes.{cell_in}
use Rattle.and_tree.proofs.tree.Tree.clear_cell.Goals as goal

pub store-requires : goal.store-requires
store-requires g c =
    let v = c.args.seat.now.me.0 in
    let can = c.requires.can in
    let below = subst (λ n. c.args.cell < 8 * n) (sym (ap (λ z. z.about.teams) c.self.view_is))
    (subst (MayCall c.args.self.now.about.teams (mine_of v).hand) c.requires.clears can.may) in (
      c.requires.same ∙ sym (ap (λ z. z.table) c.self.view_is),
      cell_in _ _ _ c.self.invariant c.args.cell below,
      rw (c.word_of-word.ensures, c.requires.clears, c.requires.slot)
          (allows_clear g.B.Keyed.key_of g.B.Keyed.Stands c.self.inside.table.shared.key _ _ c.args.cell c.args.serial v can.alone.0 below c.requires.works),
    )
