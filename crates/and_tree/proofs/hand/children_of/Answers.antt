use Rattle.std.proofs.Common.{◌∷◌, ◌++◌, [], ap, ◌∙◌}
use Rattle.and_tree.proofs.Placing.{one_more_child}
use Rattle.and_tree.proofs.hand.children_of.Goals as goal

pub loop-place-preserved : goal.loop-place-preserved
loop-place-preserved c =
    c.in_ok-push.ensures.items ∙ ap (λ k. c.loop-place.keys.items ++ k ∷ []) c.in_ok-child_of.ensures
    ∙ one_more_child c.args.longer.now c.args.clauses.now c.loop-place.place c.at.result.now c.loop-place.keys.items c.at.ensures
    c.loop-place.invariant
