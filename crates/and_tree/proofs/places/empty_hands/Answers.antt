use Rattle.std.proofs.Common.{[], ◌∙◌}
use Rattle.and_tree.proofs.Placing.{one_more_equal}
use Rattle.and_tree.proofs.places.empty_hands.Goals as goal

pub loop-team-preserved : goal.loop-team-preserved
loop-team-preserved c = c.in_ok-push.ensures.items ∙ one_more_equal c.loop-team._team [] c.new.result c.loop-team.hands.items c.new.ensures
    c.loop-team.invariant
