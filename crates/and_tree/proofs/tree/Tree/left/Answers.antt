use Rattle.std.proofs.Common.{ap, refl, ◌∙◌}
use Rattle.and_histories.specs.PlainTree.{left}
use Rattle.and_tree.specs.Sight.{mine_of}
use Rattle.and_tree.proofs.Telling.{can_call, call_makes, call_pass}
use Rattle.and_tree.proofs.tree.Tree.left.Goals as goal

pub load_live-requires-clause-can : goal.load_live-requires-clause-can
load_live-requires-clause-can g c = (
  can_call _ _ _ _ (left (mine_of c.pass.inside.seat.me.0).team) c.pass.invariant.1 (ap (λ z. z.tree.about) c.pass.view_is
      ∙ ap (λ z. z.about) c.requires.tree) refl tt,
  c.pass.invariant.1.at_rest_now,
)

pub load_live-requires-clause-counts : goal.load_live-requires-clause-counts
load_live-requires-clause-counts g c = refl

pub invariant_of-pass : goal.invariant_of-pass
invariant_of-pass g c = (
  c.load_live.ensures.told.1,
  call_pass (left (mine_of c.pass.inside.seat.me.0).team) _ _ c.load_live.result _ _ _ c.load_live.ensures.told.0 c.pass.invariant.1 refl,
)

pub returns : goal.returns
returns g c = call_makes (left (mine_of c.pass.inside.seat.me.0).team) _ _ _ _ c.load_live.result _ _ _ c.pass.view_is (ap (λ z. left z.team) c.pass.view_is)
    c.load_live.ensures.same c.load_live.ensures.told.0
    c.load_live.ensures.told.0.tells
