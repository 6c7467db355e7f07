use Rattle.std.proofs.Common.{length}
use Rattle.and_cells.specs.Parts.{named}
use Rattle.and_cells.specs.Ranges.{IsGoalInRange}
use Rattle.and_branch_laws.specs.Kept.{HasFreePair, node_item_at}
use Rattle.and_model.specs.declared.goal.Goal.{Goal}
use Rattle.and_row_check.proofs.Loops.{all_next, all_done}
use Rattle.and_row_check.proofs.readiness.are_ready.Goals as goal

pub loop-goal-preserved : goal.loop-goal-preserved
loop-goal-preserved c =
    let P = named c.args.loaded.now in
    let row = c.args.cells.now in
    let goals = c.args.goals.now in
    let yes = c.if-not-is_ready.false in
    record {
      in_range = all_next (IsGoalInRange P (length row)) goals c.loop-goal.goal-index _ c.loop-goal.invariant.in_range c.loop-goal-test.true
          (c.is_ready.ensures.in_range yes);
      free = all_next (λ (g : Goal). HasFreePair P row g (node_item_at P g)) goals c.loop-goal.goal-index _ c.loop-goal.invariant.free
          c.loop-goal-test.true (c.is_ready.ensures.free yes);
    }

pub returns : goal.returns
returns c = λ _.
    let P = named c.args.loaded.now in
    let row = c.args.cells.now in
    let goals = c.args.goals.now in
    record {
      in_range = all_done (IsGoalInRange P (length row)) goals c.loop-goal.goal-index c.loop-goal.invariant.in_range c.loop-goal-test.false;
      free = all_done (λ (g : Goal). HasFreePair P row g (node_item_at P g)) goals c.loop-goal.goal-index c.loop-goal.invariant.free
          c.loop-goal-test.false;
    }
