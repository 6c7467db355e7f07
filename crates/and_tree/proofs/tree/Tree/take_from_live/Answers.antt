use Rattle.std.proofs.Common.{ap, sym, subst, ◌∙◌}
use Rattle.and_tree.specs.Counted.{ending_of}
use Rattle.and_tree.specs.Sight.{mine_of}
use Rattle.and_tree.specs.Told.{MayCall}
use Rattle.and_tree.proofs.Allowed.{allows_end}
use Rattle.and_tree.proofs.Sizes.{live_in}
use Rattle.and_tree.proofs.tree.Tree.take_from_live.Goals as goal

pub fetch_sub-requires : goal.fetch_sub-requires
fetch_sub-requires g c =
    let v = c.args.seat.now.me.0 in
    let can = c.requires.can.0 in
    let may = subst (MayCall c.args.self.now.about.teams (mine_of v).hand) c.requires.ends can.may in (
      c.requires.same.0 ∙ sym (ap (λ z. z.table) c.self.view_is),
      live_in _ _ _ c.self.invariant,
      rw c.requires.ends (allows_end g.B.Keyed.key_of g.B.Keyed.Stands c.self.inside.table.shared.key _ _ v c.args.seat.now.me.1 can.alone.0 c.requires.same.1
          c.requires.can.1 _ (ending_of c.args.how) may),
    )
