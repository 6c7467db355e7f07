use Rattle.std.proofs.Common.{refl, ◌∙◌}
use Rattle.and_tree.proofs.Placing.{one_more_equal}
use Rattle.and_tree.proofs.places.empty_cells.Goals as goal

pub loop-cell-preserved : goal.loop-cell-preserved
loop-cell-preserved g c = c.in_ok-push.ensures.items ∙ one_more_equal c.loop-cell._cell _ _ c.loop-cell.cells.items refl c.loop-cell.invariant
