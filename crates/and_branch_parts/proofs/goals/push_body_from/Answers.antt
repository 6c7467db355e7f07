use Rattle.std.proofs.Common.{◌≡◌, ◌-◌, ◌<◌, suc, length, arith}
use Rattle.and_program.specs.Loaded.{skeleton_of}
use Rattle.and_branch_parts.proofs.BodyStacks.{stacked}
use Rattle.and_branch_parts.proofs.goals.push_body_from.Goals as goal

pub loop-place-preserved : goal.loop-place-preserved
loop-place-preserved c =
    let place = c.loop-place.place in
    let xs = c.args.items.now in
    let below : place - 1 < length xs = omega arith in
    let next : suc (place - 1) ≡ place = omega arith in record {
      within = omega arith;
      from = omega arith;
      stacked = stacked (skeleton_of c.args._loaded.now).nodes xs c.args.clause.0 c.args.node (place - 1) _ below place next
          c.args.goals.now c.loop-place.goals c.push_item.new.goals c.loop-place.invariant.stacked c.in_ok-push_item.ensures.goal
          c.in_ok-push_item.ensures.other;
    }
