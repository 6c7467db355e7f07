use Rattle.std.proofs.Common.{ap, sym, ◌∙◌}
use Rattle.and_tree.proofs.Allowed.{allows_learn}
use Rattle.and_tree.proofs.Sizes.{live_in}
use Rattle.and_tree.proofs.tree.Tree.learn.Goals as goal

pub load-requires : goal.load-requires
load-requires g c = (
  c.requires.same.0 ∙ sym (ap (λ z. z.table) c.self.view_is),
  live_in _ _ _ c.self.invariant,
  allows_learn g.B.Keyed.key_of g.B.Keyed.Stands c.self.inside.table.shared.key _ _ c.args.seat.now.me.0 c.args.seat.now.me.1
      c.requires.alone.0 c.requires.same.1,
)
