use Rattle.std.proofs.Common.{◌<◌, ◌*◌, ap, sym, subst, ◌∙◌}
use Rattle.and_tree.specs.Sight.{mine_of}
use Rattle.and_tree.specs.Told.{MayCall}
use Rattle.and_tree.proofs.Allowed.{allows_vain_claim}
use Rattle.and_tree.proofs.Sizes.{cell_in}
use Rattle.and_tree.proofs.tree.Tree.claim_in_vain.Goals as goal

pub load-requires : goal.load-requires
load-requires g c =
    let v = c.args.seat.now.me.0 in
    let can = c.requires.can.0 in
    let below = subst (λ n. c.args.cell < 8 * n) (sym (ap (λ z. z.about.teams) c.self.view_is))
    (subst (MayCall c.args.self.now.about.teams (mine_of v).hand) c.requires.claims can.may) in (
      c.requires.same.0 ∙ sym (ap (λ z. z.table) c.self.view_is),
      cell_in _ _ _ c.self.invariant c.args.cell below,
      rw c.requires.claims (allows_vain_claim g.B.Keyed.key_of g.B.Keyed.Stands c.self.inside.table.shared.key _ _ v c.args.seat.now.me.1 can.alone.0
          c.requires.same.1 c.requires.can.1 c.args.cell c.args.serial below c.requires.above),
    )
